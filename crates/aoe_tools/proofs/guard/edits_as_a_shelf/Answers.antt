use Rattle.aoe_tools.proofs.GuardLemmas.{edited-as}
use Rattle.aoe_tools.proofs.guard.edits_as_a_shelf.Goals as goal

pub returns : goal.returns
returns c = edited-as
