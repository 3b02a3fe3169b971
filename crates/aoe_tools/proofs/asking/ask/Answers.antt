use Rattle.aoe_tools.proofs.AskLemmas.{asks-failed, asks-taken, asks-unanswered, behind}
use Rattle.aoe_tools.proofs.asking.ask.Goals as goal

pub returns-in-Ok-Some-clause-asks : goal.returns-in-Ok-Some-clause-asks
returns-in-Ok-Some-clause-asks g c =
    let args = behind c.deref.ensures.0 in
    asks-taken c.unless_refused.result (rw (c.in-Ok-Some.field-0-is, c.new-wait.ensures) at c.in-Ok-Some.ensures.listens) (rw (← args) c.unless_refused.ensures.accepted)
    (rw (← args) c.unless_refused.ensures.refused)

pub returns-in-Ok-None-clause-asks : goal.returns-in-Ok-None-clause-asks
returns-in-Ok-None-clause-asks g c = asks-unanswered (rw (c.in-Ok-None.field-0-is, c.new-wait.ensures) at c.in-Ok-None.ensures.listens)

pub returns-in-Err-clause-asks : goal.returns-in-Err-clause-asks
returns-in-Err-clause-asks g c = asks-failed (rw c.new-wait.ensures at c.in-Err.ensures.listens)
