-- Sectors in ascending order: how many lie below a sector, and what a write makes of them.
use Rattle.std.proofs.Common.{◌≡◌, ◌≢◌, ◌≤◌, ◌<◌, ◌+◌, ◌-◌, ◌*◌, ◌++◌, ℕ, zero, suc, List, [], ◌∷◌, Some, None, length, take, drop, get_or, refl, arith, ◌∙◌, inl, inr, length-append, length-drop}
use Rattle.std.proofs.lemmas.Bool.{cases_lt, lt-ltb, le-ltb, eq-eqb, ne_eqb}
use Rattle.std.proofs.lemmas.Bool.Decides.{nat_tests}
use Rattle.std.proofs.lemmas.List.{length-take-le, drop-drop}
use Rattle.aoe_disk.specs.State.{sector}
use Rattle.aoe_cache.specs.declared.place.HeldSector.{HeldSector}
use Rattle.aoe_cache.specs.Held.{IsAscending, AreBelow, held_for, count_below, sectors_of, with_written}

pub some_bytes : (p q : List ℕ) → Some p ≡ Some q → p ≡ q
some_bytes p q e = cc

pub sector_is : (x y : HeldSector) → x.at ≡ y.at → x.bytes ≡ y.bytes → x ≡ y
sector_is x y at bytes = λ i. record { at = at i; bytes = bytes i }

-- elements of ascending sectors

pub ascending_low : (low : ℕ) (hs : List HeldSector) (j : ℕ) (d : HeldSector) → IsAscending low hs → j < length hs → low ≤ (get_or hs j d).at
ascending_low low [] j d order lt = absurd (omega arith)
ascending_low low (h ∷ hs) zero d order lt = order.0
ascending_low low (h ∷ hs) (suc j) d order lt = omega (arith, order.0, ascending_low (h.at + 1) hs j d order.2)

pub whole_at : (low : ℕ) (hs : List HeldSector) (i : ℕ) (d : HeldSector) → IsAscending low hs → i < length hs → length (get_or hs i d).bytes ≡ 512
whole_at low [] i d order lt = absurd (omega arith)
whole_at low (h ∷ hs) zero d order lt = order.1
whole_at low (h ∷ hs) (suc i) d order lt = whole_at (h.at + 1) hs i d order.2 (omega arith)

pub below_at : (high : ℕ) (hs : List HeldSector) (i : ℕ) (d : HeldSector) → AreBelow high hs → i < length hs → (get_or hs i d).at < high
below_at high [] i d b lt = absurd (omega arith)
below_at high (h ∷ hs) zero d b lt = b.0
below_at high (h ∷ hs) (suc i) d b lt = below_at high hs i d b.1 (omega arith)

-- how many lie below a sector

pub count_le : (s : ℕ) (hs : List HeldSector) → count_below s hs ≤ length hs
count_le s [] = omega arith
count_le s (h ∷ hs) = grind (arith, nat_tests, count_le s hs)

pub count_mono : (s t : ℕ) (hs : List HeldSector) → s ≤ t → count_below s hs ≤ count_below t hs
count_mono s t [] le = omega arith
count_mono s t (h ∷ hs) le = grind (arith, nat_tests, count_mono s t hs le)

-- no more of them lie in a range than it has
count_upto : (low s : ℕ) (hs : List HeldSector) → IsAscending low hs → count_below s hs ≤ s - low
count_upto low s [] order = omega arith
count_upto low s (h ∷ hs) order = grind (arith, nat_tests, order.0, count_upto (h.at + 1) s hs order.2)

pub count_range : (low s n : ℕ) (hs : List HeldSector) → IsAscending low hs → count_below (s + n) hs ≤ count_below s hs + n
count_range low s n [] order = omega arith
count_range low s n (h ∷ hs) order = grind (arith, nat_tests, count_upto (h.at + 1) (s + n) hs order.2, count_range (h.at + 1) s n hs order.2)

-- parts of ascending sectors

pub ascending_from : (low high : ℕ) (hs : List HeldSector) → low ≤ high → IsAscending high hs → IsAscending low hs
ascending_from low high [] le order = tt
ascending_from low high (h ∷ hs) le order = (omega (arith, order.0), order.1, order.2)

pub ascending_drop : (low k : ℕ) (hs : List HeldSector) → IsAscending low hs → IsAscending low (drop k hs)
ascending_drop low zero hs order = order
ascending_drop low (suc k) [] order = tt
ascending_drop low (suc k) (h ∷ hs) order = ascending_from low (h.at + 1) _ (omega (arith, order.0)) (ascending_drop (h.at + 1) k hs order.2)

pub ascending_take : (low k : ℕ) (hs : List HeldSector) → IsAscending low hs → IsAscending low (take k hs)
ascending_take low zero hs order = tt
ascending_take low (suc k) [] order = tt
ascending_take low (suc k) (h ∷ hs) order = (order.0, order.1, ascending_take (h.at + 1) k hs order.2)

pub ascending_append : (low mid : ℕ) (xs ys : List HeldSector) → low ≤ mid → IsAscending low xs → AreBelow mid xs → IsAscending mid ys
    → IsAscending low (xs ++ ys)
ascending_append low mid [] ys le a b c = ascending_from _ mid _ le c
ascending_append low mid (x ∷ xs) ys le a b c = (a.0, a.1, ascending_append (x.at + 1) mid xs ys (omega (arith, b.0)) a.2 b.1 c)

-- the first k, and behind them some that come after what follows the first k
pub ascending_parts : (low k : ℕ) (hs ys : List HeldSector) → IsAscending low hs → ((from : ℕ) → IsAscending from (drop k hs) → IsAscending from ys)
    → IsAscending low (take k hs ++ ys)
ascending_parts low zero hs ys order more = more low order
ascending_parts low (suc k) [] ys order more = more low order
ascending_parts low (suc k) (h ∷ hs) ys order more = (order.0, order.1, ascending_parts (h.at + 1) k hs ys order.2 more)

pub below_drop : (high k : ℕ) (hs : List HeldSector) → AreBelow high hs → AreBelow high (drop k hs)
below_drop high zero hs b = b
below_drop high (suc k) [] b = tt
below_drop high (suc k) (h ∷ hs) b = below_drop high k hs b.1

pub below_take : (high k : ℕ) (hs : List HeldSector) → AreBelow high hs → AreBelow high (take k hs)
below_take high zero hs b = tt
below_take high (suc k) [] b = tt
below_take high (suc k) (h ∷ hs) b = (b.0, below_take high k hs b.1)

pub below_append : (high : ℕ) (xs ys : List HeldSector) → AreBelow high xs → AreBelow high ys → AreBelow high (xs ++ ys)
below_append high [] ys a b = b
below_append high (x ∷ xs) ys a b = (a.0, below_append high xs ys a.1 b)

pub below_more : (low high : ℕ) (hs : List HeldSector) → low ≤ high → AreBelow low hs → AreBelow high hs
below_more low high [] le b = tt
below_more low high (h ∷ hs) le b = (omega (arith, b.0), below_more low high hs le b.1)

pub below_count : (s : ℕ) (hs : List HeldSector) → AreBelow s (take (count_below s hs) hs)
below_count s [] = tt
below_count s (h ∷ hs) = elim (cases_lt h.at s) [
  | inl below ↦ rw (lt-ltb _ _ below) (below, below_count s hs)
  | inr above ↦ rw (le-ltb _ _ above) tt
]

pub ascending_count : (low s : ℕ) (hs : List HeldSector) → IsAscending low hs → IsAscending s (drop (count_below s hs) hs)
ascending_count low s [] order = tt
ascending_count low s (h ∷ hs) order = elim (cases_lt h.at s) [
  | inl below ↦ rw (lt-ltb _ _ below) (ascending_count (h.at + 1) s hs order.2)
  | inr above ↦ rw (le-ltb _ _ above) (above, order.1, order.2)
]

-- ascending sectors below a bound are no more than fit there
pub ascending_short : (low high : ℕ) (hs : List HeldSector) → IsAscending low hs → AreBelow high hs → length hs ≤ high - low
ascending_short low high [] order b = omega arith
ascending_short low high (h ∷ hs) order b = omega (arith, ascending_short (h.at + 1) high hs order.2 b.1, order.0, b.0)

-- the sectors of a piece

pub length-sectors_of : (at n : ℕ) (piece : List ℕ) → length (sectors_of at n piece) ≡ n
length-sectors_of at zero piece = refl
length-sectors_of at (suc n) piece = omega (arith, length-sectors_of (at + 1) n (drop 512 piece))

pub ascending_sectors : (at n : ℕ) (piece : List ℕ) → 512 * n ≤ length piece → IsAscending at (sectors_of at n piece)
ascending_sectors at zero piece le = tt
ascending_sectors at (suc n) piece le =
    (omega arith, length-take-le 512 piece (omega arith), ascending_sectors (at + 1) n (drop 512 piece) (omega (arith, length-drop 512 piece)))

pub below_sectors : (at n high : ℕ) (piece : List ℕ) → at + n ≤ high → AreBelow high (sectors_of at n piece)
below_sectors at zero high piece le = tt
below_sectors at (suc n) high piece le = (omega arith, below_sectors (at + 1) n high (drop 512 piece) (omega arith))

-- what stands for a sector

pub held_same : (s : ℕ) (h : HeldSector) (hs : List HeldSector) → h.at ≡ s → held_for (h ∷ hs) s ≡ Some h.bytes
held_same s h hs e = rw (eq-eqb h.at s e)

pub held_other : (s : ℕ) (h : HeldSector) (hs : List HeldSector) → h.at ≢ s → held_for (h ∷ hs) s ≡ held_for hs s
held_other s h hs e = rw (ne_eqb h.at s e)

pub held_low : (low s : ℕ) (hs : List HeldSector) → IsAscending low hs → s < low → held_for hs s ≡ None
held_low low s [] order lt = refl
held_low low s (h ∷ hs) order lt = grind (arith, nat_tests, order.0, held_low (h.at + 1) s hs order.2)

pub held_high : (high s : ℕ) (hs : List HeldSector) → AreBelow high hs → high ≤ s → held_for hs s ≡ None
held_high high s [] b le = refl
held_high high s (h ∷ hs) b le = grind (arith, nat_tests, b.0, held_high high s hs b.1)

pub held_past : (s : ℕ) (xs ys : List HeldSector) → held_for xs s ≡ None → held_for (xs ++ ys) s ≡ held_for ys s
held_past s [] ys e = refl
held_past s (x ∷ xs) ys e = grind (arith, nat_tests, held_past s xs ys)

pub held_front : (s : ℕ) (b : List ℕ) (xs ys : List HeldSector) → held_for xs s ≡ Some b → held_for (xs ++ ys) s ≡ Some b
held_front s b [] ys e = cc
held_front s b (x ∷ xs) ys e = grind (arith, nat_tests, held_front s b xs ys)

held_first : (s : ℕ) (xs ys : List HeldSector) → held_for ys s ≡ None → held_for (xs ++ ys) s ≡ held_for xs s
held_first s [] ys e = e
held_first s (x ∷ xs) ys e = grind (arith, nat_tests, held_first s xs ys e)

held_below : (low s t : ℕ) (hs : List HeldSector) → IsAscending low hs → s < t → held_for (take (count_below t hs) hs) s ≡ held_for hs s
held_below low s t [] order lt = refl
held_below low s t (h ∷ hs) order lt = grind (arith, nat_tests, held_below (h.at + 1) s t hs order.2, held_low (h.at + 1) s hs order.2)

held_above : (s t : ℕ) (hs : List HeldSector) → t ≤ s → held_for (drop (count_below t hs) hs) s ≡ held_for hs s
held_above s t [] le = refl
held_above s t (h ∷ hs) le = grind (arith, nat_tests, held_above s t hs le)

held_sectors : (at n k : ℕ) (piece : List ℕ) → k < n → held_for (sectors_of at n piece) (at + k) ≡ Some (sector piece k)
held_sectors at zero k piece lt = absurd (omega arith)
held_sectors at (suc n) zero piece lt = grind (arith, nat_tests)
held_sectors at (suc n) (suc k) piece lt = grind (arith, nat_tests, held_sectors (at + 1) n k (drop 512 piece), drop-drop (512 * k) 512 piece)

-- the buffer after a write

module _ (at n : ℕ) (piece : List ℕ) (hs : List HeldSector) where
  pub length-with_written : length (with_written at n piece hs) ≡ count_below at hs + n + (length hs - count_below (at + n) hs)
  length-with_written =
      simp (length-append, length-drop) (omega (arith, length-sectors_of at n piece, length-take-le (count_below at hs) hs (count_le at hs)))

  pub below_written : (high : ℕ) → at + n ≤ high → AreBelow high hs → AreBelow high (with_written at n piece hs)
  below_written high le b =
      below_append high _ _ (below_take high _ hs b) (below_append high _ _ (below_sectors at n high piece le) (below_drop high _ hs b))

  module _ (whole : 512 * n ≤ length piece) (order : IsAscending 0 hs) where
    pub ascending_written : IsAscending 0 (with_written at n piece hs)
    ascending_written =
        let rest : IsAscending at (sectors_of at n piece ++ drop (count_below (at + n) hs) hs) =
        ascending_append _ (at + n) _ _ (omega arith) (ascending_sectors at n piece whole) (below_sectors at n _ piece (omega arith))
        (ascending_count 0 _ hs order) in
        ascending_append _ at _ _ (omega arith) (ascending_take _ _ hs order) (below_count at hs) rest

    low_none : (s : ℕ) → at ≤ s → held_for (take (count_below at hs) hs) s ≡ None
    low_none s le = held_high at s _ (below_count at hs) le

    high_none : (s : ℕ) → s < at + n → held_for (drop (count_below (at + n) hs) hs) s ≡ None
    high_none s lt = held_low _ s _ (ascending_count 0 _ hs order) lt

    pub held_written_below : (s : ℕ) → s < at → held_for (with_written at n piece hs) s ≡ held_for hs s
    held_written_below s lt =
        let sectors = held_low at s _ (ascending_sectors at n piece whole) lt in
        held_first s _ _ (held_first s _ _ (high_none s (omega arith)) ∙ sectors) ∙ held_below 0 s at hs order lt

    pub held_written_above : (s : ℕ) → at + n ≤ s → held_for (with_written at n piece hs) s ≡ held_for hs s
    held_written_above s le =
        let sectors = held_high _ s _ (below_sectors at n _ piece (omega arith)) le in
        held_past s _ _ (low_none s (omega arith)) ∙ held_past s _ _ sectors ∙ held_above s _ hs le

    pub held_written_inside : (k : ℕ) → k < n → held_for (with_written at n piece hs) (at + k) ≡ Some (sector piece k)
    held_written_inside k lt =
        held_past (at + k) (take (count_below at hs) hs) _ (low_none (at + k) (omega arith))
        ∙ held_first (at + k) (sectors_of at n piece) _ (high_none (at + k) (omega arith)) ∙ held_sectors at n k piece lt

-- what lies below the next sector

pub count_absent : (low s : ℕ) (hs : List HeldSector) → IsAscending low hs → held_for hs s ≡ None → count_below (s + 1) hs ≡ count_below s hs
count_absent low s [] order none = refl
count_absent low s (h ∷ hs) order none = grind (arith, nat_tests, count_absent (h.at + 1) s hs order.2)

-- a sector that is held stands behind those below it
module _ (s : ℕ) (b : List ℕ) where
  pub count_held : (low : ℕ) (hs : List HeldSector) → IsAscending low hs → held_for hs s ≡ Some b → count_below (s + 1) hs ≡ count_below s hs + 1
  count_held low [] order some = absurd (cc)
  count_held low (h ∷ hs) order some =
      grind (arith, nat_tests, count_held (h.at + 1) hs order.2, held_low (h.at + 1) s hs order.2, count_upto (h.at + 1) (s + 1) hs order.2)

  pub stands_at : (low : ℕ) (hs : List HeldSector) → IsAscending low hs → held_for hs s ≡ Some b → count_below s hs < length hs
  stands_at low [] order some = absurd (cc)
  stands_at low (h ∷ hs) order some = grind (arith, nat_tests, stands_at (h.at + 1) hs order.2, held_low (h.at + 1) s hs order.2)

pub stands_there : (s low : ℕ) (x : HeldSector) (hs : List HeldSector) → x.at ≡ s → IsAscending low hs → held_for hs s ≡ Some x.bytes
    → x ≡ get_or hs (count_below s hs) x
stands_there s low x [] is order some = absurd (cc)
stands_there s low x (h ∷ hs) is order some =
    grind (arith, nat_tests, sector_is x h, stands_there s (h.at + 1) x hs is order.2, held_low (h.at + 1) s hs order.2)

-- ascending sectors of a disk of so many
pub record AreHeld (sectors : ℕ) (hs : List HeldSector) : Type 0 where
  pub order : IsAscending 0 hs
  pub below : AreBelow sectors hs
