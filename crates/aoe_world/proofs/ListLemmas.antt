-- Lists by their places: what is read, kept by a filter, or changed at one place.
use Rattle.std.proofs.Common.{ℕ, zero, suc, ◌≡◌, ◌≢◌, ◌<◌, ◌++◌, Bool, true, List, [], ◌∷◌, length, take, Some, get_or, refl, sym, ap, ◌∙◌, inl, inr}
use Rattle.std.specs.Prelude.{slice_get, slice_set}
use Rattle.std.specs.List.{filter}
use Rattle.std.proofs.Math.Seq.{take-suc}
use Rattle.std.proofs.lemmas.Bool.{cases_eq}
use Rattle.std.proofs.lemmas.List.Elements.{filter_passes}
use Rattle.std.proofs.lemmas.Option.{get_or_from_slice_get, none-some, same_Some, slice_get_read, slice_get_within}

-- the element that was read
pub read-at : {X : Type 0} (xs : List X) (i : ℕ) {x : X} → i < length xs → x ≡ get_or xs i x → slice_get xs i ≡ Some x
read-at xs i {x} inside is = slice_get_read xs (length xs) i x refl inside is

pub take-next : {X : Type 0} (xs : List X) (k : ℕ) (x : X) → slice_get xs k ≡ Some x → take (suc k) xs ≡ take k xs ++ x ∷ []
take-next xs k x e = take-suc xs k x (slice_get_within xs k x e) ∙ ap (λ y. take k xs ++ y ∷ []) (get_or_from_slice_get xs k x x e)

pub filter-at : {X : Type 0} (p : X → Bool) (xs : List X) (i : ℕ) (x : X) → slice_get (filter p xs) i ≡ Some x → p x ≡ true
filter-at p xs i x e = ap p (sym (get_or_from_slice_get (filter p xs) i x x e)) ∙ filter_passes p xs i x (slice_get_within (filter p xs) i x e)

-- CHANGED AT ONE PLACE

get-set : {X : Type 0} (xs : List X) (i j : ℕ) (y : X) → (j ≡ i → ⊥) → slice_get (slice_set xs i y) j ≡ slice_get xs j
get-set (x ∷ xs) zero zero y apart = absurd (apart refl)
get-set (x ∷ xs) (suc i) (suc j) y apart = get-set xs i j y (λ same. apart (ap suc same))
get-set _ _ _ y apart = refl

set-get : {X : Type 0} (xs : List X) (i : ℕ) (x y : X) → slice_get (slice_set xs i x) i ≡ Some y → x ≡ y
set-get [] i x y e = absurd (none-some y e)
set-get (z ∷ xs) zero x y e = same_Some x y e
set-get (z ∷ xs) (suc i) x y e = set-get xs i x y e

-- of two lists the second is changed at one place: what holds there, and of the others as they were, holds at each place
pub set-each : {W X : Type 0} (ws : List W) (xs : List X) (i : ℕ) (w : W) (x : X) (R : ℕ → W → X → Type 0) → slice_get ws i ≡ Some w → R i w x
    → ((j : ℕ) (v : W) (y : X) → j ≢ i → slice_get ws j ≡ Some v → slice_get xs j ≡ Some y → R j v y)
    → (j : ℕ) (v : W) (y : X) → slice_get ws j ≡ Some v → slice_get (slice_set xs i x) j ≡ Some y → R j v y
set-each ws xs i w x R at here others j v y ev ey = elim (cases_eq j i) [
  | inl is ↦
      let same : w ≡ v = same_Some w v (sym at ∙ ap (slice_get ws) (sym is) ∙ ev) in
      let found : x ≡ y = set-get xs i x y (rw is at ey) in
      rw (is, ← same, ← found) here
  | inr apart ↦ others j v y apart ev (sym (get-set xs i j x apart) ∙ ey)
]
