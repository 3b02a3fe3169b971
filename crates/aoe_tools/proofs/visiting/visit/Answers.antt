use Rattle.aoe_tools.proofs.VisitLemmas.{visit-failed, visited}
use Rattle.aoe_tools.proofs.visiting.visit.Goals as goal

pub returns-in-Ok-clause-run : goal.returns-in-Ok-clause-run
returns-in-Ok-clause-run g c =
    visited c.device-seen.ensures c.question-question.ensures c.page_request.ensures c.learn.ensures.1 c.learn.ensures.2 c.in-Ok.ensures.run

pub returns-in-Err-clause-run : goal.returns-in-Err-clause-run
returns-in-Err-clause-run g c = visit-failed c.device-seen.ensures c.question-question.ensures c.page_request.ensures c.in-Err.ensures.run
