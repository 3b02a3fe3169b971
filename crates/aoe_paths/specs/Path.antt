-- One path: whether it is marked as missed, and the trips on it.
use Rattle.std.specs.Prelude.{ℕ, List, [], ◌∷◌, Bool, false, Option, Some, None}
use Rattle.aoe_base.specs.declared.counted.Millis.{Millis}
use Rattle.aoe_paths.specs.Timeout.{last_trips}

-- whether an answer on it was missed since the last that came, and the last trips in milliseconds, the latest first
pub record PathState : Type 0 where
  pub missed : Bool
  pub trips : List ℕ

abbrev pub new_path : PathState
new_path = record { missed = false; trips = [] }

-- the trips after an answer, whose own trip is counted where one is given
abbrev pub after_trip : List ℕ → Option Millis → List ℕ
after_trip trips None = trips
after_trip trips (Some trip) = last_trips (trip.0 ∷ trips)
