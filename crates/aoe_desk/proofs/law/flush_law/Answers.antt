use Rattle.aoe_desk.proofs.RunLemmas.{next_flush}
use Rattle.aoe_desk.proofs.law.flush_law.Goals as goal

pub returns : goal.returns
returns c d desk is = next_flush desk is
