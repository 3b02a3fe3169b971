-- A clock that goes by steps.
use Rattle.std.specs.Prelude.{ℕ, zero, suc, ◌+◌, ◌-◌, ◌*◌, ◌^◌, List, [], ◌∷◌, length, min, nat_lt, Option, Some, None, if◌then◌else◌}

-- the next answer, the step, and the answers so far, the latest first, as long as they are fewer than 2^64 - 1
pub record Ticking : Type 0 where
  pub coming : ℕ
  pub step : ℕ
  pub answers : Option (List ℕ)

-- the answers after one more, as long as they are fewer than 2^64 - 1
abbrev pub told_after : Option (List ℕ) → ℕ → Option (List ℕ)
told_after None answer = None
told_after (Some told) answer = if nat_lt (length told + 1) (2 ^ 64 - 1) then Some (answer ∷ told) else None

-- the clock after its next answer; it stands still at the greatest u64
abbrev pub ticked : Ticking → Ticking
ticked c = record c { coming = min (c.coming + c.step) (2 ^ 64 - 1); answers = told_after c.answers c.coming }

-- the first so many answers, the latest first
abbrev pub answers_of : ℕ → ℕ → ℕ → List ℕ
answers_of start step zero = []
answers_of start step (suc k) = min (start + k * step) (2 ^ 64 - 1) ∷ answers_of start step k

-- the first so many answers, where they are told
abbrev pub told_of : ℕ → ℕ → ℕ → Option (List ℕ)
told_of start step count = if nat_lt count (2 ^ 64 - 1) then Some (answers_of start step count) else None
