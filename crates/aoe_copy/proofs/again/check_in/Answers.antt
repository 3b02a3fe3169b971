use Rattle.aoe_copy.proofs.HostLemmas.{starts-new}
use Rattle.aoe_copy.proofs.again.check_in.Goals as goal

pub check_all-requires-clause-begins : goal.check_all-requires-clause-begins
check_all-requires-clause-begins g c = starts-new _ _ _ _ _ _ c.in-Ok.ensures.host c.in-Ok.ensures.matches
