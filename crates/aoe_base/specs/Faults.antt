-- Counts of faults. Each object of the outside (a source, a sink, a disk, a link) has one that never falls.
use Rattle.std.specs.Prelude.{ℕ, ◌+◌, ◌-◌, ◌^◌, ◌<◌, ◌≤◌, ◌≡◌}

-- the count rose, where it didn't stand at its type's end
abbrev pub Rose : ℕ → ℕ → Type 0
Rose before after = before < 2 ^ 64 - 1 → before < after

-- an object of the outside failed at most once, and just where the answer tells so
pub record Blamed (told : Type 0) (faults faults' : ℕ) : Type 0 where
  pub cause : told → Rose faults faults'
  pub no_fault : (told → ⊥) → faults' ≡ faults
  pub one_fault : faults' ≤ faults + 1
