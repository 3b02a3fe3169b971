use Rattle.std.proofs.Common.{ℕ, List}
use Rattle.aoe_history.specs.Setup.{Setup}
use Rattle.aoe_sim_setup.specs.Layout.{Placed}
use Rattle.aoe_world.specs.Sim.{ArePlaces, IsNetwork, IsReady}
use Rattle.aoe_world.proofs.ScheduleLemmas.{InHand}
use Rattle.aoe_world.proofs.sim.Sim.hand_over.Given as goal

abbrev pub invariant-places : goal.invariant-places
invariant-places l =
    (s : Setup) (majors : List ℕ) (stations : List Placed) → IsNetwork s majors → IsReady s majors l.fn.self → ArePlaces s majors stations l.fn.places
    → InHand s majors stations l.number.0 l.place-index l.any l.fn.self l.self
