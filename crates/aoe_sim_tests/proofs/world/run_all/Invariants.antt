use Rattle.std.proofs.Common.{◌≡◌}
use Rattle.aoe_sim_tests.proofs.world.run_all.Given as goal

abbrev pub invariant-events : goal.invariant-events
invariant-events l = (l.world.lines ≡ l.script.setups) × (l.world.events ≡ l.i)
