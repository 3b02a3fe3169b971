-- Each event comes behind those before it, or a part of it.
use Rattle.aoe_world.proofs.EventLemmas.{one_played, stops}
use Rattle.aoe_world.proofs.events.run_events.Goals as goal

pub returns-in-Err-clause-stops : goal.returns-in-Err-clause-stops
returns-in-Err-clause-stops c =
    let begins = rw c.events.invariant.goes_on at c.in-Err.ensures.begins in
    let why = rw c.events.invariant.goes_on at c.in-Err.ensures.why in
    rw c.end_of.ensures (stops c.step.new.self c.events.invariant c.event.ensures.event begins c.in-Err.ensures.lines
    (record { lawful = c.in-Err.ensures.lawful; reading = c.in-Err.ensures.reading; room = c.in-Err.ensures.room }) c.in-Err.refusal why)

pub events-preserved : goal.events-preserved
events-preserved c =
    one_played c.step.new.self c.events.invariant c.event.ensures.event
    c.in-Ok.ensures.comes c.in-Ok.ensures.lines c.in-Ok.ensures.events.0 c.in-Ok.ensures.events.1
