use Rattle.aoe_copy.proofs.OtherLemmas.{AreSame}
use Rattle.aoe_copy.proofs.again.first_other.Given as goal

abbrev pub invariant-sectors : goal.invariant-sectors
invariant-sectors l = AreSame l.sent l.back l.k
