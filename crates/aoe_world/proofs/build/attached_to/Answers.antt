use Rattle.std.proofs.Common.{sym, ◌∙◌}
use Rattle.aoe_world.proofs.build.attached_to.Goals as goal

pub returns-then-same : goal.returns-then-same
returns-then-same c = rw (c.known_of.ensures, c.in-Attach.is, sym c.same.ensures ∙ c.if-same.true)
