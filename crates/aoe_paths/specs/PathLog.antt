-- What happened on the paths to a device, the newest first, and what comes of it.
use Rattle.std.specs.Prelude.{ℕ, ◌≡◌, Bool, true, false, nat_eq, List, [], ◌∷◌, map, Option, Some, None, if◌then◌else◌}
use Rattle.std.specs.List.{range_with_len}
use Rattle.aoe_base.specs.declared.counted.Millis.{Millis}
use Rattle.aoe_paths.specs.PathTable.{next_path, path_count, PathTable}
use Rattle.aoe_paths.specs.Timeout.{last_trips, timeout_of}

-- a path was chosen for a frame; an answer on a path was missed; an answer came on a path, with its
-- round trip where it is known
pub data PathEvent : Type 0 where
  Chosen : ℕ → PathEvent
  Missed : ℕ → PathEvent
  Answered : ℕ → Option Millis → PathEvent

-- a path is marked: an answer on it was missed, and none came since
abbrev pub is_marked : List PathEvent → ℕ → Bool
is_marked [] q = false
is_marked (Chosen p ∷ log) q = is_marked log q
is_marked (Missed p ∷ log) q = if nat_eq p q then true else is_marked log q
is_marked (Answered p trip ∷ log) q = if nat_eq p q then false else is_marked log q

-- the path that was chosen last
abbrev pub last_choice : List PathEvent → Option ℕ
last_choice [] = None
last_choice (Chosen p ∷ log) = Some p
last_choice (Missed p ∷ log) = last_choice log
last_choice (Answered p trip ∷ log) = last_choice log

-- all round trips on a path in milliseconds, the latest first
abbrev pub trips_on : List PathEvent → ℕ → List ℕ
trips_on [] q = []
trips_on (Chosen p ∷ log) q = trips_on log q
trips_on (Missed p ∷ log) q = trips_on log q
trips_on (Answered p None ∷ log) q = trips_on log q
trips_on (Answered p (Some trip) ∷ log) q = if nat_eq p q then trip.0 ∷ trips_on log q else trips_on log q

-- the marks of so many paths, in the order of their numbers
abbrev pub marks_on : ℕ → List PathEvent → List Bool
marks_on count log = map (is_marked log) (range_with_len 0 count)

-- the path that is taken next, of so many
abbrev pub next_of : ℕ → List PathEvent → ℕ
next_of count log = next_path (marks_on count log) (last_choice log)

-- how long an answer on a path is waited for
abbrev pub timeout_on : List PathEvent → ℕ → ℕ
timeout_on log p = timeout_of (trips_on log p)

-- of what happened on the paths, the table has what a choice and a timeout go by
pub record Recalls (table : PathTable) (log : List PathEvent) : Type 0 where
  pub chosen : table.chosen ≡ last_choice log
  pub marks : table.marks ≡ marks_on (path_count table) log
  pub trips : table.trips ≡ map (λ p. last_trips (trips_on log p)) (range_with_len 0 (path_count table))
