-- Lists with a piece in the place of another, and marks that are set.
use Rattle.std.proofs.Common.{◌≡◌, ◌≤◌, ◌<◌, ◌+◌, ◌-◌, ℕ, Bool, true, false, List, ◌++◌, length, take, drop, get_or, replicate, refl, arith, sym, ◌∙◌, ap, inl, inr, length-append, length-drop, append_assoc}
use borrow.Rule.Slice.PartMut.{put_mid}
use Rattle.std.proofs.lemmas.List.{length-take-le, take_at, drop_at, drop-drop, length-replicate, get_or_append_left, get_or-append_right, get_or-take, get_or-drop, get_or-replicate, get_or_past, drop_all, append-nil}
use Rattle.std.proofs.lemmas.Grind.{common_steps}
use Rattle.std.proofs.lemmas.Bool.{cases_lt}
use Rattle.aoe_disk.specs.State.{with_piece, with_marks, spoiled_sector, is_loose}
use Rattle.aoe_disk.specs.Calls.{SameOutside}
use Rattle.aoe_disk.specs.Sectors.{IsOutside}

pub length-spoiled_sector : length spoiled_sector ≡ 512
unfolding spoiled_sector
length-spoiled_sector = refl

-- the spoiled sector as a program fills it
pub spoiled_sector_of : (n : ℕ) → n ≡ 512 → replicate n 238 ≡ spoiled_sector
unfolding spoiled_sector
spoiled_sector_of n e = ap (λ (m : ℕ). replicate m 238) e

-- a slice that was written in the middle
pub put_mid-with_piece : (xs ys : List ℕ) (start n : ℕ) → n ≡ length ys → put_mid start n xs ys ≡ with_piece xs start ys
put_mid-with_piece xs ys start n e = grind (arith, common_steps, append_assoc {A = ℕ}, e)

module _ (xs : List ℕ) (i : ℕ) (p : List ℕ) (fits : i + length p ≤ length xs) where
  front : length (take i xs) ≡ i
  front = length-take-le i xs (omega arith)

  front_piece : length (take i xs ++ p) ≡ i + length p
  front_piece = omega (arith, length-append (take i xs) p, front)

  pub length-with_piece : length (with_piece xs i p) ≡ length xs
  length-with_piece = omega (arith, length-append (take i xs ++ p) (drop (i + length p) xs), front_piece, length-drop (i + length p) xs)

  pub take-with_piece : take i (with_piece xs i p) ≡ take i xs
  take-with_piece = ap (take i) (append_assoc (take i xs) p (drop (i + length p) xs)) ∙ take_at (take i xs) (p ++ drop (i + length p) xs) i front

  pub drop-with_piece : drop (i + length p) (with_piece xs i p) ≡ drop (i + length p) xs
  drop-with_piece = drop_at (take i xs ++ p) (drop (i + length p) xs) (i + length p) front_piece

  -- the piece itself and what follows it
  pub drop_start-with_piece : drop i (with_piece xs i p) ≡ p ++ drop (i + length p) xs
  drop_start-with_piece = ap (drop i) (append_assoc (take i xs) p (drop (i + length p) xs)) ∙ drop_at (take i xs) (p ++ drop (i + length p) xs) i front

  pub drop_past-with_piece : (n : ℕ) → length p ≤ n → drop (i + n) (with_piece xs i p) ≡ drop (i + n) xs
  drop_past-with_piece n le =
      let e : i + n ≡ i + length p + (n - length p) = omega arith in
      rw (e, ← drop-drop (n - length p) (i + length p) (with_piece xs i p), drop-with_piece, drop-drop (n - length p) (i + length p) xs)

  -- a piece of up to n bytes changes none outside them
  pub with_piece_outside : (n : ℕ) → length p ≤ n → SameOutside i n xs (with_piece xs i p)
  with_piece_outside n le = record { size = length-with_piece; before = take-with_piece; after = drop_past-with_piece n le }

module _ (loose : List Bool) (at n : ℕ) (fits : at + n ≤ length loose) where
  before_marks : length (take at loose) ≡ at
  before_marks = length-take-le at loose (omega arith)

  through_marks : length (take at loose ++ replicate n true) ≡ at + n
  through_marks = omega (arith, before_marks, length-append (take at loose) (replicate n true), length-replicate n true)

  pub length-with_marks : length (with_marks loose at n) ≡ length loose
  length-with_marks = omega (arith, through_marks, length-append (take at loose ++ replicate n true) (drop (at + n) loose), length-drop (at + n) loose)

  pub with_marks_outside : SameOutside at n loose (with_marks loose at n)
  with_marks_outside = record {
    size = length-with_marks;
    before = ap (take at) (append_assoc (take at loose) (replicate n true) (drop (at + n) loose))
        ∙ take_at (take at loose) (replicate n true ++ drop (at + n) loose) at before_marks;
    after = drop_at (take at loose ++ replicate n true) (drop (at + n) loose) (at + n) through_marks;
  }

  pub is_loose-with_marks_outside : (s : ℕ) → IsOutside at n s → is_loose (with_marks loose at n) s ≡ is_loose loose s
  is_loose-with_marks_outside s (inl below) =
      ap (λ (l : List Bool). get_or l s false) (append_assoc (take at loose) (replicate n true) (drop (at + n) loose))
      ∙ get_or_append_left (take at loose) (replicate n true ++ drop (at + n) loose) false s (omega (arith, before_marks)) ∙ get_or-take at loose s false below
  is_loose-with_marks_outside s (inr above) =
      let sum : at + n + (s - (at + n)) ≡ s = omega arith in
      get_or-append_right (take at loose ++ replicate n true) (drop (at + n) loose) (at + n) s false through_marks above
      ∙ get_or-drop (at + n) loose (s - (at + n)) false ∙ ap (λ (i : ℕ). get_or loose i false) sum

  pub is_loose-with_marks_inside : (s : ℕ) → at ≤ s → s < at + n → is_loose (with_marks loose at n) s ≡ true
  is_loose-with_marks_inside s low high =
      get_or_append_left (take at loose ++ replicate n true) (drop (at + n) loose) false s (omega (arith, through_marks))
      ∙ get_or-append_right (take at loose) (replicate n true) at s false before_marks low ∙ get_or-replicate n (s - at) true false (omega arith)

pub is_loose-replicate : (n s : ℕ) → is_loose (replicate n false) s ≡ false
is_loose-replicate n s = elim (cases_lt s n) [
  | inl below ↦ get_or-replicate n s false false below
  | inr past ↦ get_or_past (replicate n false) s false (omega (arith, length-replicate n false))
]

-- what a Vec holds after a slice of all of it was written
pub stored : {A : Type 0} (xs new want : List A) (n : ℕ) → n ≡ length xs → length want ≡ length xs → new ≡ want → take n (new ++ drop (length new) xs) ≡ want
stored xs new want n whole same e = take_at new (drop (length new) xs) n (ap length e ∙ same ∙ sym whole) ∙ e

pub with_piece-whole : (xs : List ℕ) → length xs ≡ 512 → with_piece xs 0 spoiled_sector ≡ spoiled_sector
unfolding spoiled_sector
with_piece-whole xs e = ap (λ (l : List ℕ). spoiled_sector ++ l) (drop_all (length spoiled_sector) xs (omega (arith, length-spoiled_sector)))
    ∙ append-nil spoiled_sector

-- the same of marks, and of a piece, that a method wrote to a field
pub stored_marks : (loose new seen : List Bool) (len at n : ℕ) → len ≡ length loose → seen ≡ loose → new ≡ with_marks seen at n → at + n ≤ length loose
    → take len (new ++ drop (length new) loose) ≡ with_marks loose at n
stored_marks loose new seen len at n whole same e fits = stored loose new (with_marks loose at n) len whole (length-with_marks loose at n fits)
    (e ∙ ap (λ (l : List Bool). with_marks l at n) same)

pub stored_piece : (bytes new seen piece : List ℕ) (len start : ℕ) → len ≡ length bytes → seen ≡ bytes → new ≡ with_piece seen start piece
    → start + length piece ≤ length bytes → take len (new ++ drop (length new) bytes) ≡ with_piece bytes start piece
stored_piece bytes new seen piece len start whole same e fits =
    stored bytes new (with_piece bytes start piece) len whole (length-with_piece bytes start piece fits)
    (e ∙ ap (λ (l : List ℕ). with_piece l start piece) same)
