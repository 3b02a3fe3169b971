-- Things in the order of their ranks.
use Rattle.std.proofs.Common.{ℕ, zero, suc, ◌≡◌, ◌<◌, ◌≤◌, Bool, true, false, List, [], ◌∷◌, length, get_or, inl, inr, sym, ◌∙◌, arith, Option, None}
use Rattle.std.specs.Prelude.{slice_get, All, Contains, Err, IsSome, Ok, OnErr, OnOk, OnSome, Result, Some}
use Rattle.std.specs.List.{filter, insert, remove, AllWithin}
use Rattle.std.specs.List.Sorted.{IsPartitionedBy}
use Rattle.std.proofs.lemmas.Bool.{cases_Bool, cases_lt, true≢false}
use Rattle.std.proofs.lemmas.Bool.Decides.{nat_tests}
use Rattle.std.proofs.lemmas.List.Elements.{All-cons, All-filter, All-nil}
use Rattle.std.proofs.lemmas.List.Sorted.{All-permutation, IsPermutation-insert}
use Rattle.std.proofs.lemmas.Option.{get_or_from_slice_get}
use Rattle.aoe_base.proofs.CommonLemmas.{All-remove}
use Rattle.aoe_sorted.specs.declared.rank.Rank.{Rank}
use Rattle.aoe_sorted.specs.Order.{before, AreInOrder}

before-back : (a b : Rank) → before a b ≡ true → before b a ≡ false
before-back a b is = grind (arith, nat_tests)

-- what stands ahead of one that stands before another stands before it, too
before-ahead : (a b c : Rank) → before b a ≡ false → before b c ≡ true → before a c ≡ true
before-ahead a b c ahead is = grind (arith, nat_tests)

pub before-self : (a : Rank) → before a a ≡ false
before-self a = grind (arith, nat_tests)

module _ {X : Type 0} (rank : X → Rank) where
  abbrev NotBefore : X → X → Type 0
  NotBefore x later = before (rank later) (rank x) ≡ false

  pub ordered-insert : (y : X) (xs : List X) (i : ℕ) → AreInOrder rank xs → i ≤ length xs
      → AllWithin (λ x. before (rank x) (rank y) ≡ true) xs 0 i
      → AllWithin (λ x. before (rank x) (rank y) ≡ false) xs i (length xs) → AreInOrder rank (insert xs i y)
  ordered-insert y [] zero order within low high = (All-nil (NotBefore y), tt)
  ordered-insert y [] (suc i) order within low high = absurd (omega arith)
  ordered-insert y (x ∷ xs) zero order within low high = ((λ k d below. high k d (omega arith) below), order)
  ordered-insert y (x ∷ xs) (suc i) order within low high = (
    All-permutation (NotBefore x) (y ∷ xs) (insert xs i y) (IsPermutation-insert xs i y)
        (All-cons (NotBefore x) y xs (before-back (rank x) (rank y) (low 0 x (omega arith) (omega arith))) order.0),
    ordered-insert y xs i order.1 (omega arith) (λ k d from below. low (suc k) d (omega arith) (omega arith))
        (λ k d from below. high (suc k) d (omega arith) (omega arith)),
  )

  pub partitioned : (y : Rank) (xs : List X) → AreInOrder rank xs → IsPartitionedBy (λ d. before (rank d) y) xs
  partitioned y [] order i j d le below passes = absurd (omega arith)
  partitioned y (x ∷ xs) order zero zero d le below passes = passes
  partitioned y (x ∷ xs) order zero (suc j) d le below passes = before-ahead (rank x) (rank (get_or xs j d)) y (order.0 j d (omega arith)) passes
  partitioned y (x ∷ xs) order (suc i) zero d le below passes = absurd (omega arith)
  partitioned y (x ∷ xs) order (suc i) (suc j) d le below passes = partitioned y xs order.1 i j d (omega arith) (omega arith) passes

  pub ordered-filter : (p : X → Bool) (xs : List X) → AreInOrder rank xs → AreInOrder rank (filter p xs)
  ordered-filter p [] order = tt
  ordered-filter p (x ∷ xs) order = elim (cases_Bool (p x)) [
    | inl stays ↦ rw stays (All-filter p (NotBefore x) xs order.0, ordered-filter p xs order.1)
    | inr goes ↦ rw goes (ordered-filter p xs order.1)
  ]

  pub ordered-remove : (xs : List X) (i : ℕ) → i < length xs → AreInOrder rank xs → AreInOrder rank (remove xs i)
  ordered-remove [] i within order = absurd (omega arith)
  ordered-remove (x ∷ xs) zero within order = order.1
  ordered-remove (x ∷ xs) (suc i) within order = (All-remove (NotBefore x) xs i (omega arith) order.0, ordered-remove xs i (omega arith) order.1)

  -- no later one stands before an earlier one
  ordered-behind : (xs : List X) (i k : ℕ) (d : X) → AreInOrder rank xs → i ≤ k → k < length xs → before (rank (get_or xs k d)) (rank (get_or xs i d)) ≡ false
  ordered-behind [] i k d order more inside = absurd (omega arith)
  ordered-behind (x ∷ xs) zero zero d order more inside = before-self (rank x)
  ordered-behind (x ∷ xs) zero (suc k) d order more inside = order.0 k d (omega arith)
  ordered-behind (x ∷ xs) (suc i) zero d order more inside = absurd (omega arith)
  ordered-behind (x ∷ xs) (suc i) (suc k) d order more inside = ordered-behind xs i k d order.1 (omega arith) (omega arith)

  -- the place behind all that stand before a rank has the first from it
  pub first-least : (xs : List X) (i : ℕ) (y : Rank) (x : X) → AreInOrder rank xs → AllWithin (λ e. before (rank e) y ≡ true) xs 0 i
      → ((d : X) → x ≡ get_or xs i d) → All (λ e. before (rank e) y ≡ false → before (rank e) (rank x) ≡ false) xs
  first-least xs i y x order low here k d below out = elim (cases_lt k i) [
    | inl ahead ↦ absurd (true≢false (sym (low k d (omega arith) ahead) ∙ out))
    | inr behind ↦ rw (here d) (ordered-behind xs i k d order behind below)
  ]

-- the first in a list in order
pub head-least : {X : Type 0} (rank : X → Rank) (xs : List X) (x y : X) → AreInOrder rank xs → slice_get xs 0 ≡ Some x → Contains xs y
    → before (rank y) (rank x) ≡ false
head-least rank xs x y order is there =
    let first = get_or_from_slice_get xs 0 x y is in
    rw (first, there.2) at (ordered-behind rank xs 0 there.0 y order (omega arith) there.1)

pub removed-at : {X : Type 0} (r : Option X) (xs new : List X) (i : ℕ) → (i < length xs → IsSome r) → OnSome r (new ≡ remove xs i) → i < length xs
    → new ≡ remove xs i
removed-at (Some x) xs new i some made within = made
removed-at None xs new i some made within = let never = some within in absurd cc

pub inserted-at : {T E : Type 0} (r : Result T E) (A B : Type 0) → OnOk r A → OnErr r B → (B → ⊥) → A
inserted-at (Ok done) A B ok err room = ok
inserted-at (Err refused) A B ok err room = absurd (room err)
