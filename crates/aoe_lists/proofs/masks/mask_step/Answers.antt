use Rattle.std.proofs.Common.{map}
use Rattle.aoe_lists.specs.Masks.{directive_of}
use Rattle.aoe_lists.proofs.AnswerLemmas.{made_other, ChangesOnly-mask_result}
use Rattle.aoe_lists.proofs.masks.mask_step.Goals as goal

pub returns-in-Some-clause-changes : goal.returns-in-Some-clause-changes
returns-in-Some-clause-changes c =
    made_other c.args.lists.now _ _ _ _ c.act.ensures (ChangesOnly-mask_result c.args.lists.now c.in-Some.command (map directive_of c.in-Some.directives.now))
