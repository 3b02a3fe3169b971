use Rattle.std.proofs.Common.{◌≤◌, ℕ, suc, List, length}
use Rattle.aoe_history.specs.Frames.{frames}
use Rattle.aoe_history.specs.Setup.{Setup}
use Rattle.aoe_world.specs.Schedule.{losses}
use Rattle.aoe_world.specs.Sim.{IsNetwork, IsReady}
use Rattle.aoe_world.proofs.PassLemmas.{Passing}
use Rattle.aoe_world.proofs.sim.Sim.skip.Given as goal

abbrev pub invariant-skipped : goal.invariant-skipped
invariant-skipped l =
    (s : Setup) (majors : List ℕ) → IsNetwork s majors → IsReady s majors l.fn.self → 1 ≤ l.fn.cursor
    → l.fn.cursor ≤ suc (length (frames l.fn.self.run.entries))
    → Passing s majors losses l.counter l.fn.cursor l.cursor l.fn.self l.self
