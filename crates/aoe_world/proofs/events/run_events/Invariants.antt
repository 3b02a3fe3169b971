use Rattle.aoe_world.proofs.EventLemmas.{IsPlayed}
use Rattle.aoe_world.proofs.events.run_events.Given as goal

abbrev pub invariant-events : goal.invariant-events
invariant-events l = IsPlayed l.script l.i l.world
