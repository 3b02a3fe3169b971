-- A bell in memory.
use Rattle.std.specs.Prelude.{ℕ, List, ◌∷◌, length, nat_lt, Option, Some, None, if◌then◌else◌}

-- how long each wait was to last at most, the latest first, as long as there is room for all, and that room
pub record Waiting : Type 0 where
  pub waits : Option (List ℕ)
  pub room : ℕ

-- the waits after one more
abbrev pub waits_after : ℕ → Option (List ℕ) → ℕ → Option (List ℕ)
waits_after room None most = None
waits_after room (Some waits) most = if nat_lt (length waits) room then Some (most ∷ waits) else None

-- the bell after one more wait
abbrev pub waited : Waiting → ℕ → Waiting
waited b most = record b { waits = waits_after b.room b.waits most }
