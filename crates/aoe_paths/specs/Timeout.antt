-- How long an answer on a path is waited for, by the round trips on it.
use Rattle.std.specs.Prelude.{ℕ, ◌*◌, List, [], ◌∷◌, fold, take, min, max}

-- the trips that count: the last eight, the latest first
abbrev pub last_trips : List ℕ → List ℕ
last_trips trips = take 8 trips

abbrev pub greatest : List ℕ → ℕ
greatest trips = fold max 0 trips

-- 1000 milliseconds where the path has no trip; else four times the greatest of its last eight, at least 100 and at most 60000
abbrev pub timeout_of : List ℕ → ℕ
timeout_of [] = 1000
timeout_of (trip ∷ earlier) = min 60000 (max 100 (4 * greatest (last_trips (trip ∷ earlier))))
