use Rattle.aoe_flight.specs.Outstanding.{is_due}
use Rattle.aoe_flight.proofs.TableLemmas.{due-flying}
use Rattle.aoe_flight.proofs.TimeLemmas.{any-due, any-never}
use Rattle.aoe_flight.proofs.search.due_from.Goals as goal

pub returns-in-Some-clause-time : goal.returns-in-Some-clause-time
returns-in-Some-clause-time g c = λ now small past. rw c.due_from.ensures (any-due now c.in-Some.command.now past c.in-Some.ensures.first)

pub returns-in-None-clause-time : goal.returns-in-None-clause-time
returns-in-None-clause-time g c = λ now small past. any-never _ (is_due now) now small (due-flying now) c.in-None.ensures.none
