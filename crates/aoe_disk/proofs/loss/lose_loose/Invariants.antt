use Rattle.aoe_disk.proofs.Losing.{LeftTo}
use Rattle.aoe_disk.proofs.loss.lose_loose.Given as goal

abbrev pub invariant-sectors : goal.invariant-sectors
invariant-sectors l = LeftTo l.s l.how l.fn.now l.settled l.loose l.now
