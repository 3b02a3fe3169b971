use Rattle.aoe_lists.proofs.AnswerLemmas.{made_other, ChangesOnly-config_result}
use Rattle.aoe_lists.proofs.config.config_step.Goals as goal

pub returns-in-Some-clause-changes : goal.returns-in-Some-clause-changes
returns-in-Some-clause-changes c = made_other c.args.lists.now _ _ _ _ c.act.ensures (ChangesOnly-config_result c.args.lists.now _ _ _)
