use Rattle.std.proofs.Common.{◌∙◌, ap}
use Rattle.aoe.specs.Tools.{is_copy_status}
use Rattle.aoe.proofs.Blame.{retold}
use Rattle.aoe.proofs.CopyLemmas.{copied-link, copied-source, told-status}
use Rattle.aoe.proofs.tools.run_put.Goals as goal

pub returns-in-Err-clause-status : goal.returns-in-Err-clause-status
returns-in-Err-clause-status g c = ap is_copy_status c.copy_status.ensures ∙ told-status c.in-Err.refusal

pub returns-in-Err-clause-link : goal.returns-in-Err-clause-link
returns-in-Err-clause-link g c = retold _ _ (copied-link _ c.in-Err.refusal c.copy_status.ensures) _ _ c.in-Err.ensures.link

pub returns-in-Err-clause-source : goal.returns-in-Err-clause-source
returns-in-Err-clause-source g c = retold _ _ (copied-source _ c.in-Err.refusal c.copy_status.ensures) _ _ c.in-Err.ensures.source

pub returns-in-Err-clause-run : goal.returns-in-Err-clause-run
returns-in-Err-clause-run g c = record {
  result = _;
  runs = rw c.terms_of-terms.ensures at c.in-Err.ensures.run;
  ends = c.copy_status.ensures;
}
