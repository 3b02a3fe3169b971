use Rattle.aoe.proofs.Blame.{retold}
use Rattle.aoe.proofs.CopyLemmas.{copied-link}
use Rattle.aoe.proofs.tools.run_get.Goals as goal

pub returns-in-Err-clause-link : goal.returns-in-Err-clause-link
returns-in-Err-clause-link g c = retold _ _ (copied-link _ c.in-Err.refusal c.copy_status.ensures) _ _ c.in-Err.ensures.link
