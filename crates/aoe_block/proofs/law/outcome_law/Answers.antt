use Rattle.aoe_block.proofs.LawLemmas.{success_is}
use Rattle.aoe_block.proofs.law.outcome_law.Goals as goal

pub returns : goal.returns
returns c write count outcome can = success_is write count outcome can
