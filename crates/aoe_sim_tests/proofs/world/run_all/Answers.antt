use Rattle.std.proofs.Common.{◌≡◌, None, subst, sym}
use Rattle.aoe_script.specs.Rules.{event_why}
use Rattle.aoe_sim_tests.proofs.world.run_all.Goals as goal

pub step-requires-clause-good : goal.step-requires-clause-good
step-requires-clause-good c = subst (λ lines. event_why lines c.event.result.now ≡ None) (sym c.events.invariant.0) c.event.ensures.good
