use Rattle.aoe_serve.proofs.MirrorLemmas.{leaves_alone}
use Rattle.aoe_serve.proofs.over_mirror.leave.Goals as goal

pub returns-clause-leaves : goal.returns-clause-leaves
returns-clause-leaves g c = rw c.close-mirror.ensures.mirror (leaves_alone (c.in-Some.store, c.in-Some.keep) _ _ c.requires c.in-Some.ensures.takes)
