-- Sectors in whatever order, and the same in ascending order.
use Rattle.std.proofs.Common.{◌≡◌, ◌≢◌, ◌≤◌, ◌<◌, ◌+◌, ◌*◌, ℕ, zero, suc, false, List, [], ◌∷◌, Some, None, Contains, IsPermutation, length, nat_eq, get_or, refl, sym, arith, ◌∙◌, ap, inl, inr}
use Rattle.std.specs.List.{All, AllByRecursion, IsDistinct}
use Rattle.std.specs.List.Sorted.{IsNonDecreasingBy}
use Rattle.std.proofs.lemmas.Bool.{cases_eq, eqb-false}
use Rattle.std.proofs.lemmas.Bool.Decides.{nat_tests}
use Rattle.std.proofs.lemmas.List.{take_all}
use Rattle.std.proofs.lemmas.List.Sorted.{All-permutation, Contains-permutation, IsPermutation-map, IsPermutation-sym}
use Rattle.std.proofs.lemmas.Map.Keys.{IsDistinct-IsPermutation, IsDistinct-head, IsDistinct-tail}
use Rattle.aoe_cache.specs.declared.place.HeldSector.{HeldSector}
use Rattle.aoe_cache.specs.Held.{IsAscending, held_for, numbers_of, ordered, with_written}
use Rattle.aoe_cache.specs.Cache.{AreWhole}
use Rattle.aoe_cache.proofs.Ascending.{ascending_written, count_absent, count_le, held_low, held_written_above, held_written_below, held_written_inside, length-with_written, sector_is, whole_at}
use Rattle.aoe_cache.proofs.Sectors.{cases_held}

-- ascending sectors are what stands for each number

heads_at : (low : ℕ) (x y : HeldSector) (xs ys : List HeldSector) → IsAscending low (y ∷ ys) → ((s : ℕ) → held_for (x ∷ xs) s ≡ held_for (y ∷ ys) s)
    → y.at ≤ x.at
heads_at low x y xs ys b same = grind (arith, nat_tests, same x.at, held_low (y.at + 1) x.at ys b.2)

pub ascending_same : (low : ℕ) (xs ys : List HeldSector) → IsAscending low xs → IsAscending low ys → ((s : ℕ) → held_for xs s ≡ held_for ys s) → xs ≡ ys
ascending_same low [] [] a b same = refl
ascending_same low [] (y ∷ ys) a b same = grind (arith, nat_tests, same y.at)
ascending_same low (x ∷ xs) [] a b same = grind (arith, nat_tests, same x.at)
ascending_same low (x ∷ xs) (y ∷ ys) a b same =
    let at : x.at ≡ y.at = omega (arith, heads_at low x y xs ys b same, heads_at low y x ys xs a (λ s. sym (same s))) in
    let bytes : x.bytes ≡ y.bytes = grind (arith, nat_tests, same x.at) in
    let rest =
    ascending_same (x.at + 1) xs ys a.2 (rw at b.2) (λ s. grind (arith, nat_tests, same s, held_low (x.at + 1) s xs a.2, held_low (y.at + 1) s ys b.2)) in
    λ i. sector_is x y at bytes i ∷ rest i

-- one sector is written

module _ (at : ℕ) (b : List ℕ) (hs : List HeldSector) (order : IsAscending 0 hs) (whole : length b ≡ 512) where
  enough : 512 * 1 ≤ length b
  enough = omega (arith, whole)

  pub written_same : held_for (with_written at 1 b hs) at ≡ Some b
  written_same =
      let first : at ≡ at + 0 = omega arith in
      ap (held_for (with_written at 1 b hs)) first ∙ held_written_inside at 1 b hs enough order 0 (omega arith)
      ∙ ap Some (take_all 512 b (omega (arith, whole)))

  pub written_other : (s : ℕ) → at ≢ s → held_for (with_written at 1 b hs) s ≡ held_for hs s
  written_other s other = grind (arith, held_written_below at 1 b hs enough order s, held_written_above at 1 b hs enough order s)

-- sectors put in order

pub whole_rest : (h : HeldSector) (hs : List HeldSector) → AreWhole (h ∷ hs) → AreWhole hs
whole_rest h hs whole = λ k d lt. whole (suc k) d (omega (arith, lt))

pub whole_first : (h : HeldSector) (hs : List HeldSector) → AreWhole (h ∷ hs) → length h.bytes ≡ 512
whole_first h hs whole = whole 0 h (omega arith)

pub ascending_ordered : (hs : List HeldSector) → AreWhole hs → IsAscending 0 (ordered hs)
ascending_ordered [] whole = tt
ascending_ordered (h ∷ hs) whole = ascending_written h.at 1 h.bytes _ (omega (arith, whole_first h hs whole)) (ascending_ordered hs (whole_rest h hs whole))

pub held_ordered : (hs : List HeldSector) → AreWhole hs → (s : ℕ) → held_for (ordered hs) s ≡ held_for hs s
held_ordered [] whole s = refl
held_ordered (h ∷ hs) whole s =
    let rest : AreWhole hs = whole_rest h hs whole in
    let order : IsAscending 0 (ordered hs) = ascending_ordered hs rest in
    let one = whole_first h hs whole in
    grind (arith, nat_tests, written_same h.at h.bytes (ordered hs) order one, written_other h.at h.bytes (ordered hs) order one s, held_ordered hs rest s)

pub ascending_whole : (hs : List HeldSector) → IsAscending 0 hs → AreWhole hs
ascending_whole hs order = λ k d lt. whole_at 0 hs k d order lt

-- those that are in order already stay as they are
pub ordered_same : (hs : List HeldSector) → IsAscending 0 hs → ordered hs ≡ hs
ordered_same hs order =
    let whole : AreWhole hs = ascending_whole hs order in
    ascending_same 0 _ hs (ascending_ordered hs whole) order (held_ordered hs whole)

-- numbers that differ

other_number : (s : ℕ) (hs : List HeldSector) (k : ℕ) (d : HeldSector) → AllByRecursion (λ (n : ℕ). nat_eq s n ≡ false) (numbers_of hs) → k < length hs
    → s ≢ (get_or hs k d).at
other_number s [] k d all lt = absurd (omega arith)
other_number s (h ∷ hs) zero d all lt = eqb-false s h.at all.0
other_number s (h ∷ hs) (suc k) d all lt = other_number s hs k d all.1 (omega (arith, lt))

other_none : (s : ℕ) (hs : List HeldSector) → AllByRecursion (λ (n : ℕ). nat_eq s n ≡ false) (numbers_of hs) → held_for hs s ≡ None
other_none s [] all = refl
other_none s (h ∷ hs) all = grind (arith, nat_tests, eqb-false s h.at all.0, other_none s hs all.1)

pub held_at : (hs : List HeldSector) (k : ℕ) (d : HeldSector) → IsDistinct nat_eq (numbers_of hs) → k < length hs
    → held_for hs (get_or hs k d).at ≡ Some (get_or hs k d).bytes
held_at [] k d once lt = absurd (omega arith)
held_at (h ∷ hs) zero d once lt = grind (arith, nat_tests)
held_at (h ∷ hs) (suc k) d once lt =
    grind (arith, nat_tests, other_number h.at hs k d (IsDistinct-head _ _ _ once), held_at hs k d (IsDistinct-tail _ _ _ once))

pub length-ordered : (hs : List HeldSector) → AreWhole hs → IsDistinct nat_eq (numbers_of hs) → length (ordered hs) ≡ length hs
length-ordered [] whole once = refl
length-ordered (h ∷ hs) whole once =
    let rest : AreWhole hs = whole_rest h hs whole in
    let none : held_for (ordered hs) h.at ≡ None = held_ordered hs rest h.at ∙ other_none h.at hs (IsDistinct-head _ _ _ once) in
    let absent = count_absent 0 h.at (ordered hs) (ascending_ordered hs rest) none in
    omega (arith, length-with_written h.at 1 h.bytes (ordered hs), absent, count_le h.at (ordered hs), length-ordered hs rest (IsDistinct-tail _ _ _ once))

-- what a sort makes of them

held_contains : (hs : List HeldSector) (s : ℕ) (b : List ℕ) → held_for hs s ≡ Some b → Contains hs (record { at = s; bytes = b })
held_contains [] s b some = absurd (cc)
held_contains (h ∷ hs) s b some = elim (cases_eq h.at s) [
  | inl same ↦ let bytes : h.bytes ≡ b = grind (arith, nat_tests) in (0, omega arith, sector_is h _ same bytes)
  | inr other ↦
      let later : held_for hs s ≡ Some b = grind (arith, nat_tests) in
      let r = held_contains hs s b later in (suc r.0, omega (arith, r.1), r.2)
]

contains_held : (hs : List HeldSector) (h : HeldSector) → IsDistinct nat_eq (numbers_of hs) → Contains hs h → held_for hs h.at ≡ Some h.bytes
contains_held hs h once there = rw there.2 at (held_at hs there.0 h once there.1)

eqb_flips : (m n : ℕ) → nat_eq m n ≡ nat_eq n m
eqb_flips m n = grind (arith, nat_tests)

module _ (xs ys : List HeldSector) (turned : IsPermutation xs ys) (once : IsDistinct nat_eq (numbers_of xs)) where
  once_turned : IsDistinct nat_eq (numbers_of ys)
  once_turned = IsDistinct-IsPermutation nat_eq eqb_flips _ _ (IsPermutation-map (λ (h : HeldSector). h.at) xs ys turned) once

  held_turned : (s : ℕ) → held_for xs s ≡ held_for ys s
  held_turned s = elim (cases_held (held_for ys s)) [
    | inl gone ↦ elim (cases_held (held_for xs s)) [
      | inl none ↦ none ∙ sym gone
      | inr p ↦ p.1 ∙ sym (contains_held ys _ once_turned (Contains-permutation xs ys _ turned (held_contains xs s p.0 p.1)))
    ]
    | inr p ↦ contains_held xs _ once (Contains-permutation ys xs _ (IsPermutation-sym xs ys turned) (held_contains ys s p.0 p.1)) ∙ sym p.1
  ]

ascending_sorted : (low : ℕ) (hs : List HeldSector) → IsNonDecreasingBy (λ (h : HeldSector). h.at) hs → IsDistinct nat_eq (numbers_of hs) → AreWhole hs
    → All (λ (h : HeldSector). low ≤ h.at) hs → IsAscending low hs
ascending_sorted low [] rises once whole from = tt
ascending_sorted low (h ∷ hs) rises once whole from =
    let others = other_number h.at hs in
    let first = IsDistinct-head _ _ _ once in (
      from 0 h (omega arith),
      whole_first h hs whole,
      ascending_sorted (h.at + 1) hs (λ i j d le lt. rises (suc i) (suc j) d (omega (arith, le)) (omega (arith, lt))) (IsDistinct-tail _ _ _ once)
          (whole_rest h hs whole)
          (λ k d lt. omega (arith, rises 0 (suc k) d (omega arith) (omega (arith, lt)), others k d first lt)),
    )

pub sorted_ordered : (xs ys : List HeldSector) → IsPermutation xs ys → IsNonDecreasingBy (λ (h : HeldSector). h.at) ys → IsDistinct nat_eq (numbers_of xs)
    → AreWhole xs → ys ≡ ordered xs
sorted_ordered xs ys turned rises once whole =
    let same : AreWhole ys = All-permutation (λ (h : HeldSector). length h.bytes ≡ 512) xs ys turned whole in
    let order : IsAscending 0 ys = ascending_sorted 0 ys rises (once_turned xs ys turned once) same (λ k d lt. omega arith) in
    ascending_same 0 ys _ order (ascending_ordered xs whole) (λ s. sym (held_turned xs ys turned once s) ∙ sym (held_ordered xs whole s))
