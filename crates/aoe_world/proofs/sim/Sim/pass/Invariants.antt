use Rattle.std.proofs.Common.{◌≤◌, ℕ, suc, List, length}
use Rattle.aoe_history.specs.Frames.{frames}
use Rattle.aoe_history.specs.Setup.{Setup}
use Rattle.aoe_sim_setup.specs.Layout.{Placed}
use Rattle.aoe_world.specs.Schedule.{handings}
use Rattle.aoe_world.specs.Sim.{ArePlaces, HasPlaces, IsNetwork, IsReady}
use Rattle.aoe_world.proofs.PassLemmas.{Passing}
use Rattle.aoe_world.proofs.sim.Sim.pass.Given as goal

abbrev pub invariant-passed : goal.invariant-passed
invariant-passed l = record {
  there : HasPlaces l.fn.places l.self;
  passing : (s : Setup) (majors : List ℕ) (stations : List Placed) → IsNetwork s majors → IsReady s majors l.fn.self → ArePlaces s majors stations l.fn.places
      → 1 ≤ l.fn.cursor → l.fn.cursor ≤ suc (length (frames l.fn.self.run.entries))
      → Passing s majors (handings s stations) l.counter l.fn.cursor l.cursor l.fn.self l.self;
}
