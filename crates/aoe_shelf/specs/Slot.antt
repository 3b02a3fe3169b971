-- One element of a list changes.
use Rattle.std.specs.Prelude.{ℕ, ◌≡◌, List, Some, slice_get, slice_set}

-- the element of xs at the slot becomes another one, in such a way, and all others stay
pub record ChangesAt {X : Type 0} (slot : ℕ) (Change : X → X → Type 0) (xs ys : List X) : Type 0 where
  pub before : X
  pub after : X
  pub found : slice_get xs slot ≡ Some before
  pub others : ys ≡ slice_set xs slot after
  pub change : Change before after
