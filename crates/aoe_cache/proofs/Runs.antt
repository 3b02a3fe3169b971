-- Runs of adjacent sectors, joined in one device write.
use Rattle.std.proofs.Common.{◌≡◌, ◌≢◌, ◌≤◌, ◌<◌, ◌+◌, ◌*◌, ◌++◌, ℕ, zero, suc, Bool, true, List, [], ◌∷◌, Some, None, length, take, drop, replicate, refl, sym, arith, ◌∙◌, inl, inr, append_assoc, length-append, length-drop, take-append-drop}
use Rattle.std.proofs.lemmas.Bool.{cases_eq}
use Rattle.std.proofs.lemmas.List.{length-take-le, take_at, drop_at, drop-drop, append-nil, length-replicate}
use Rattle.aoe_disk.specs.State.{with_piece, with_marks}
use Rattle.aoe_cache.specs.declared.place.HeldSector.{HeldSector}
use Rattle.aoe_cache.specs.Held.{IsAscending, AreBelow, held_for, laid_over, marked}
use Rattle.aoe_cache.specs.Down.{AreAdjacent, IsJoined, bytes_of, first_of}
use Rattle.aoe_cache.proofs.Ascending.{below_take, held_same, held_other}

-- the size of a run, and its range

pub length-bytes_of : (low : ℕ) (hs : List HeldSector) → IsAscending low hs → length (bytes_of hs) ≡ 512 * length hs
length-bytes_of low [] order = refl
length-bytes_of low (h ∷ hs) order = omega (arith, length-append h.bytes (bytes_of hs), order.1, length-bytes_of (h.at + 1) hs order.2)

pub adjacent_fits : (at high : ℕ) (hs : List HeldSector) → 0 < length hs → AreAdjacent at hs → AreBelow high hs → at + length hs ≤ high
adjacent_fits at high [] some a b = absurd (omega arith)
adjacent_fits at high (h ∷ []) some a b = omega (arith, a.0, b.0)
adjacent_fits at high (h ∷ (g ∷ hs)) some a b = omega (arith, adjacent_fits (at + 1) high (g ∷ hs) (omega arith) a.1 b.1)

-- a joined run ends within the disk
pub run_within : (n from high : ℕ) (hs : List HeldSector) → IsJoined n (drop from hs) → AreBelow high (drop from hs) → first_of (drop from hs) + n ≤ high
run_within n from high hs joined below =
    let len : length (take n (drop from hs)) ≡ n = length-take-le n (drop from hs) joined.there in
    omega (
      arith,
      len,
      adjacent_fits (first_of (drop from hs)) high (take n (drop from hs)) (omega (arith, len, joined.some)) joined.adjacent
          (below_take high n (drop from hs) below),
    )

-- a sector of a run is held
pub adjacent_held : (at n s : ℕ) (hs : List HeldSector) → AreAdjacent at (take n hs) → n ≤ length hs → at ≤ s → s < at + n → held_for hs s ≢ None
adjacent_held at zero s hs a le low high e = absurd (omega arith)
adjacent_held at (suc n) s [] a le low high e = absurd (omega arith)
adjacent_held at (suc n) s (h ∷ hs) a le low high e = elim (cases_eq h.at s) [
  | inl same ↦ let there : Some h.bytes ≡ None = sym (held_same s h hs same) ∙ e in cc
  | inr other ↦ adjacent_held (at + 1) n s hs a.1 (omega arith) (omega (arith, other, a.0)) (omega arith) (sym (held_other s h hs other) ∙ e)
]

-- one piece behind another

module _ {A : Type 0} (xs p : List A) (i : ℕ) (fits : i + length p ≤ length xs) where
  length-put : length (take i xs ++ p ++ drop (i + length p) xs) ≡ length xs
  length-put = omega (
    arith,
    length-append (take i xs ++ p) (drop (i + length p) xs),
    length-append (take i xs) p,
    length-take-le i xs
        (omega arith),
    length-drop (i + length p) xs,
  )

  put_append : (q : List A) → take (i + length p) (take i xs ++ p ++ drop (i + length p) xs) ++ q
      ++ drop (i + length p + length q) (take i xs ++ p ++ drop (i + length p) xs) ≡ take i xs ++ (p ++ q) ++ drop (i + (length p + length q)) xs
  put_append q =
      let front : length (take i xs ++ p) ≡ i + length p = omega (arith, length-append (take i xs) p, length-take-le i xs (omega arith)) in
      let old : List A = take i xs ++ p ++ drop (i + length p) xs in
      let head : take (i + length p) old ≡ take i xs ++ p = take_at (take i xs ++ p) _ (i + length p) front in
      let sum : i + length p + length q ≡ i + (length p + length q) = omega arith in
      let behind : drop (i + length p) old ≡ drop (i + length p) xs = drop_at (take i xs ++ p) _ (i + length p) front in
      let tail : drop (i + length p + length q) old ≡ drop (i + (length p + length q)) xs =
      sym (drop-drop (length q) (i + length p) old) ∙ rw (behind, drop-drop (length q) (i + length p) xs, sum) refl in
      rw (head, tail, append_assoc (take i xs) p q) refl

put_nothing : {A : Type 0} (xs : List A) (i : ℕ) → take i xs ++ [] ++ drop (i + 0) xs ≡ xs
put_nothing {A} xs i = let e : i + 0 ≡ i = omega arith in rw (append-nil (take i xs), e) (take-append-drop i xs)

-- the sectors of a run, written at once

pub laid_run : (low at : ℕ) (bytes : List ℕ) (hs : List HeldSector) → IsAscending low hs → AreAdjacent at hs → 512 * at + 512 * length hs ≤ length bytes
    → laid_over bytes hs ≡ with_piece bytes (512 * at) (bytes_of hs)
laid_run low at bytes [] order a fits = sym (put_nothing bytes (512 * at))
laid_run low at bytes (h ∷ hs) order a fits =
    let here : 512 * h.at ≡ 512 * at = omega (arith, a.0) in
    let room : 512 * at + length h.bytes ≤ length bytes = omega (arith, order.1) in
    let more : 512 * (at + 1) ≡ 512 * at + length h.bytes = omega (arith, order.1) in
    let size : length (with_piece bytes (512 * at) h.bytes) ≡ length bytes = length-put bytes h.bytes (512 * at) room in
    let rest = laid_run (h.at + 1) (at + 1) (with_piece bytes (512 * at) h.bytes) hs order.2 a.1 (omega (arith, size)) in
    rw (here, rest, more, length-append h.bytes (bytes_of hs)) (put_append bytes h.bytes (512 * at) room (bytes_of hs))

pub marked_run : (at : ℕ) (loose : List Bool) (hs : List HeldSector) → AreAdjacent at hs → at + length hs ≤ length loose
    → marked loose hs ≡ with_marks loose at (length hs)
marked_run at loose [] a fits = sym (put_nothing loose at)
marked_run at loose (h ∷ hs) a fits =
    let one : List Bool = replicate 1 true in
    let room : at + 1 ≤ length loose = omega arith in
    let size : length (with_marks loose at 1) ≡ length loose = length-put loose one at room in
    let n : ℕ = length hs in
    let sum : 1 + n ≡ suc n = omega arith in
    let rest = marked_run (at + 1) (with_marks loose at 1) hs a.1 (omega (arith, size)) in
    let last = rw (length-replicate n true, sum) at (put_append loose one at room (replicate n true)) in
    rw (a.0, rest) last
