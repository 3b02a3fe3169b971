-- Which sectors device calls leave as they were.
use Rattle.std.specs.Prelude.{◌≡◌, ◌⊎◌, ◌≤◌, ◌<◌, ◌+◌, ℕ, false, length}
use Rattle.aoe_disk.specs.State.{Contents, is_loose, sector}

abbrev pub IsOutside : ℕ → ℕ → ℕ → Type 0
IsOutside at n s = (s < at) ⊎ (at + n ≤ s)

-- all but n sectors from at on are as they were, and none of them is newly loose
pub record Touches (at n : ℕ) (old new : Contents) : Type 0 where
  pub size : length new.bytes ≡ length old.bytes
  pub marks : length new.loose ≡ length old.loose
  pub same : (s : ℕ) → IsOutside at n s → sector new.bytes s ≡ sector old.bytes s
  pub kept : (s : ℕ) → IsOutside at n s → is_loose old.loose s ≡ false → is_loose new.loose s ≡ false

-- every sector is as it was, and none is newly loose: a crash leaves nothing new
pub record Calms (old new : Contents) : Type 0 where
  pub bytes : new.bytes ≡ old.bytes
  pub marks : length new.loose ≡ length old.loose
  pub kept : (s : ℕ) → is_loose old.loose s ≡ false → is_loose new.loose s ≡ false
