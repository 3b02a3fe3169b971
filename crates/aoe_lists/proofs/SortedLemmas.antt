-- What halving tells of sorted addresses.
use Rattle.std.proofs.Common.{◌≡◌, ◌<◌, ◌+◌, ℕ, lt-ltb, if◌then◌else◌, cond, ltb, sum_by, IsPermutation, Bool, true, false, List, [], ◌∷◌, Result, Ok, Err, length, get_or, is_ok, refl, sym, ap, ◌∙◌, arith, inl, inr, suc, zero, rules, ◌||◌}
use Rattle.std.specs.Prelude.{IsSorted}
use Rattle.std.specs.Cmp.{IsTotalOrder}
use Rattle.std.specs.Ordering.{eq_by_cmp, is_eq}
use Rattle.std.specs.declared.cmp.Ordering.{Ordering}
use Rattle.std.specs.List.Sorted.{IsSearchInRange, IsBinarySearchResult}
use Rattle.std.proofs.lemmas.Bool.{cases_lt}
use Rattle.std.proofs.lemmas.List.Sums.{sum_by-cons}
use Rattle.std.proofs.lemmas.List.Sorted.{length_permutation, searchable_from_sorted, sum_by-IsPermutation}
use Rattle.aoe_base.specs.declared.address.Mac.{Mac}
use Rattle.aoe_base.specs.Addresses.{holds, same_address}
use Rattle.aoe_lists.specs.Settings.{is_open_to}

-- no place has the address, so that it isn't there
absent : (xs : List Mac) (a : Mac) → ((k : ℕ) (d : Mac) → k < length xs → same_address (get_or xs k d) a ≡ false) → holds xs a ≡ false
absent [] a none = refl
absent (x ∷ xs) a none = rw (none 0 a (omega arith), absent xs a (λ k d l. none (suc k) d (omega (arith, l)))) refl

-- a place has it, so that it is there
present : (xs : List Mac) (a : Mac) (k : ℕ) → k < length xs → ((d : Mac) → same_address (get_or xs k d) a ≡ true) → holds xs a ≡ true
present [] a k l at = absurd (omega (arith, l))
present (x ∷ xs) a zero l at = rw (at a) refl
present (x ∷ xs) a (suc k) l at = rw (present xs a k (omega (arith, l)) at) (grind rules)

module _ (cmp : Mac → Mac → Ordering) (total : IsTotalOrder cmp) (ties : (x y : Mac) → same_address x y ≡ eq_by_cmp cmp x y) where
  pub searched : (xs : List Mac) (a : Mac) (r : Result ℕ ℕ) → IsSearchInRange r (length xs) → IsBinarySearchResult (λ y. cmp y a) xs r → IsSorted cmp xs
      → is_ok r ≡ holds xs a
  searched xs a (Ok i) within at sorted = sym (present xs a i within (λ d. ties (get_or xs i d) a ∙ ap is_eq (at d)))
  searched xs a (Err i) within parted sorted = sym (absent xs a none)
    where
      none : (k : ℕ) (d : Mac) → k < length xs → same_address (get_or xs k d) a ≡ false
      none k d l =
          let p = parted (searchable_from_sorted total (λ y. y) xs a sorted) in
          ties (get_or xs k d) a ∙ elim (cases_lt k i) [
            | inl low ↦ ap is_eq (p.0 k d (omega arith) low)
            | inr high ↦ ap is_eq (p.1 k d high l)
          ]

-- lists with the same addresses hold the same ones, in whatever order

abbrev one_of : Mac → Mac → ℕ
one_of a b = if same_address b a then 1 else 0

holds-count : (xs : List Mac) (a : Mac) → holds xs a ≡ ltb 0 (sum_by (one_of a) xs)
holds-count [] a = refl
holds-count (x ∷ xs) a = rw (sum_by-cons (one_of a) x xs) (at (same_address x a) (holds-count xs a))
  where
    at : (t : Bool) → holds xs a ≡ ltb 0 (sum_by (one_of a) xs) → (t || holds xs a) ≡ ltb 0 (cond t 1 0 + sum_by (one_of a) xs)
    at true rest = sym (lt-ltb 0 (1 + sum_by (one_of a) xs) (omega arith))
    at false rest = let s = sum_by (one_of a) xs in let same : s ≡ 0 + s = omega arith in rest ∙ ap (ltb 0) same

pub open_alike : (xs ys : List Mac) → IsPermutation xs ys → (a : Mac) → is_open_to ys a ≡ is_open_to xs a
open_alike xs ys moved a =
    let long : length ys ≡ length xs = length_permutation xs ys moved in
    let same : holds ys a ≡ holds xs a = holds-count ys a ∙ ap (ltb 0) (sum_by-IsPermutation (one_of a) xs ys moved) ∙ sym (holds-count xs a) in
    rw (long, same) refl
