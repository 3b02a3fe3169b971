use Rattle.aoe_disk.proofs.Losing.{SettledTo}
use Rattle.aoe_disk.proofs.bytes.settle_loose.Given as goal

abbrev pub invariant-sectors : goal.invariant-sectors
invariant-sectors l = SettledTo l.s l.now l.loose l.settled
