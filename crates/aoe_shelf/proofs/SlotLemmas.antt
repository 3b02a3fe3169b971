-- What one changed element leaves of a list, for loops over all slots.
use Rattle.std.proofs.Common.{ℕ, zero, suc, ◌≡◌, ◌≢◌, ◌<◌, List, [], ◌∷◌, Some, length, get_or, refl, sym, ap, subst, ◌∙◌}
use Rattle.std.specs.Prelude.{slice_get, slice_set}
use Rattle.std.proofs.lemmas.List.{get_or-set_same, length-set}
use Rattle.std.proofs.lemmas.Option.{slice_get_read, slice_get_within}
use Rattle.aoe_shelf.specs.Slot.{ChangesAt}

-- the element that was read is changed
pub changed : {X : Type 0} (slot : ℕ) (Change : X → X → Type 0) (items xs : List X) (x y : X) → items ≡ xs → slot < length xs → x ≡ get_or items slot x
    → Change x y
    → ChangesAt slot Change xs (slice_set items slot y)
changed slot Change items xs x y same inside read change = record {
  before = x;
  after = y;
  found = slice_get_read xs (length xs) slot x refl inside (subst (λ ws. x ≡ get_or ws slot x) same read);
  others = ap (λ ws. slice_set ws slot y) same;
  change = change;
}

-- the slot is one of the list
pub slot-within : {X : Type 0} (slot : ℕ) (Change : X → X → Type 0) (xs ys : List X) → ChangesAt slot Change xs ys → slot < length xs
slot-within slot Change xs ys c = slice_get_within xs slot c.before c.found

pub length-changed : {X : Type 0} (slot : ℕ) (Change : X → X → Type 0) (xs ys : List X) → ChangesAt slot Change xs ys → length ys ≡ length xs
length-changed slot Change xs ys c = ap length c.others ∙ length-set xs slot c.after

-- the element at the slot after the change
pub get-after : {X : Type 0} (slot : ℕ) (Change : X → X → Type 0) (xs ys : List X) (c : ChangesAt slot Change xs ys) → slice_get ys slot ≡ Some c.after
get-after slot Change xs ys c =
    let inside = slot-within slot Change xs ys c in
    slice_get_read ys (length ys) slot c.after refl (subst (λ n. slot < n) (sym (length-changed slot Change xs ys c)) inside)
    (sym (ap (λ ws. get_or ws slot c.after) c.others ∙ get_or-set_same xs slot c.after c.after inside))

get-set : {X : Type 0} (xs : List X) (i j : ℕ) (y : X) → j ≢ i → slice_get (slice_set xs i y) j ≡ slice_get xs j
get-set [] i j y apart = refl
get-set (x ∷ xs) zero zero y apart = absurd (apart refl)
get-set (x ∷ xs) zero (suc j) y apart = refl
get-set (x ∷ xs) (suc i) zero y apart = refl
get-set (x ∷ xs) (suc i) (suc j) y apart = get-set xs i j y (λ same. apart (ap suc same))

-- the element at another slot stays
pub get-other : {X : Type 0} (slot : ℕ) (Change : X → X → Type 0) (xs ys : List X) → ChangesAt slot Change xs ys → (other : ℕ) → other ≢ slot
    → slice_get ys other ≡ slice_get xs other
get-other slot Change xs ys c other apart = ap (λ ws. slice_get ws other) c.others ∙ get-set xs slot other c.after apart
