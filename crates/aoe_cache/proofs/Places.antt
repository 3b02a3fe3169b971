-- The places of a buffer, as lists.
use Rattle.std.proofs.Common.{◌≡◌, ◌≤◌, ◌<◌, ◌+◌, ◌-◌, ◌*◌, ◌++◌, ℕ, List, [], ◌∷◌, length, take, drop, set, get_or, sym, arith, ◌∙◌, ap, inl, inr, append_assoc, length-drop}
use borrow.Rule.Slice.PartMut.{put_mid}
use Rattle.std.specs.List.{swap}
use Rattle.std.proofs.lemmas.Bool.{cases_lt}
use Rattle.std.proofs.lemmas.List.{length-take-le, drop-drop, drop-set-lt, drop-take, drop_more, flat_map_more, get_or-drop, get_or-take, set-set, take-set-le, take-take, take_more, take_more_set}
use Rattle.std.proofs.lemmas.List.Edits.{swap_is}
use Rattle.std.proofs.lemmas.Slice.{take-put_mid}
use Rattle.aoe_cache.specs.declared.place.HeldSector.{HeldSector}
use Rattle.aoe_cache.specs.Down.{AreAdjacent, bytes_of, first_of}

-- the elements of the places in use
pub used_element : (xs : List HeldSector) (held k : ℕ) (x : HeldSector) → k < held → x ≡ get_or xs k x → x ≡ get_or (take held xs) k x
used_element xs held k x lt is = is ∙ sym (get_or-take held xs k x lt)

pub used_from : (xs : List HeldSector) (held from k : ℕ) (x : HeldSector) → from + k < held → x ≡ get_or xs (from + k) x
    → x ≡ get_or (drop from (take held xs)) k x
used_from xs held from k x lt is = used_element xs held (from + k) x lt is ∙ sym (get_or-drop from (take held xs) k x)

-- runs of adjacent sectors

pub first_of-drop : (hs : List HeldSector) (k : ℕ) (d : HeldSector) → k < length hs → first_of (drop k hs) ≡ (get_or hs k d).at
first_of-drop hs k d lt = ap first_of (drop_more hs k d lt)

pub adjacent_more : (at : ℕ) (xs : List HeldSector) (x : HeldSector) → AreAdjacent at xs → x.at ≡ at + length xs → AreAdjacent at (xs ++ x ∷ [])
adjacent_more at [] x a e = (omega (arith, e), tt)
adjacent_more at (y ∷ ys) x a e = (a.0, adjacent_more (at + 1) ys x a.1 (omega (arith, e)))

pub adjacent_step : (at n : ℕ) (hs : List HeldSector) (x : HeldSector) → n < length hs → x ≡ get_or hs n x → AreAdjacent at (take n hs) → x.at ≡ at + n
    → AreAdjacent at (take (n + 1) hs)
adjacent_step at n hs x lt is a e =
    let one : take (n + 1) hs ≡ take n hs ++ x ∷ [] = take_more hs n x lt ∙ (λ i. take n hs ++ sym is i ∷ []) in
    rw one (adjacent_more at (take n hs) x a (omega (arith, e, length-take-le n hs (omega arith))))

-- one more sector is joined
pub gather_more : (i k : ℕ) (hs : List HeldSector) (x : HeldSector) (out ys : List ℕ) → i < length hs → x ≡ get_or hs i x → ys ≡ x.bytes → length ys ≡ 512
    → 512 * i ≤ length out
    → take (512 * i) out ≡ bytes_of (take i hs) → take (512 * (i + 1)) (put_mid (512 * i) k out ys) ≡ bytes_of (take (i + 1) hs)
gather_more i k hs x out ys lt is piece size fits so =
    let one : take (i + 1) hs ≡ take i hs ++ x ∷ [] = take_more hs i x lt ∙ (λ j. take i hs ++ sym is j ∷ []) in
    take-put_mid (512 * i) k out ys (512 * (i + 1)) (omega (arith, size)) fits
    ∙ rw (so, piece, one) (flat_map_more (λ (h : HeldSector). h.bytes) [] (take i hs) x)

-- sectors are moved down: one more of them

some_place : (xs : List HeldSector) → 0 < length xs → HeldSector
some_place [] some = absurd (omega arith)
some_place (x ∷ xs) some = x

module _ (xs : List HeldSector) (a b : ℕ) (d : HeldSector) (le : a ≤ b) (lt : b < length xs) where
  swap_sets : swap xs a b ≡ set (set xs a (get_or xs b d)) b (get_or xs a d)
  swap_sets = sym (swap_is xs a b d (omega arith) lt)

  swap_front : take (a + 1) (swap xs a b) ≡ take a xs ++ get_or xs b d ∷ []
  swap_front = elim (cases_lt a b) [
    | inl less ↦ ap (take (a + 1)) swap_sets ∙ take-set-le (a + 1) _ b _ (omega arith) ∙ take_more_set xs a _ (omega arith)
    | inr same ↦ let one : b ≡ a = omega arith in
        ap (take (a + 1)) swap_sets ∙ rw one (ap (take (a + 1)) (set-set xs a _ _) ∙ take_more_set xs a _ (omega arith))
  ]

  swap_back : drop (b + 1) (swap xs a b) ≡ drop (b + 1) xs
  swap_back = ap (drop (b + 1)) swap_sets ∙ drop-set-lt (b + 1) _ b _ (omega arith) ∙ drop-set-lt (b + 1) xs a _ (omega arith)

module _ (old now : List HeldSector) (from to i : ℕ) (down : to ≤ from) (there : from + i < length old) (size : length now ≡ length old)
    (rest : drop (from + i) now ≡ drop (from + i) old) where
  pub moved_front : take (to + i) now ≡ take to old ++ take i (drop from old)
      → take (to + (i + 1)) (swap now (to + i) (from + i)) ≡ take to old ++ take (i + 1) (drop from old)
  moved_front moved =
      let d : HeldSector = some_place old (omega (arith, there)) in
      let next : get_or now (from + i) d ≡ get_or (drop from old) i d =
      first_from now (from + i) d ∙ (λ j. get_or (rest j) 0 d) ∙ sym (first_from old (from + i) d) ∙ sym (get_or-drop from old i d) in
      let front = swap_front now (to + i) (from + i) d (omega (arith, down)) (omega (arith, there, size)) in
      let more : take (i + 1) (drop from old) ≡ take i (drop from old) ++ get_or (drop from old) i d ∷ [] =
      take_more (drop from old) i d (omega (arith, there, length-drop from old)) in
      let count : to + i + 1 ≡ to + (i + 1) = omega arith in
      rw (count, moved, next) at front ∙ append_assoc (take to old) _ _ ∙ ap (λ ys. take to old ++ ys) (sym more)
    where
      first_from : (xs : List HeldSector) (k : ℕ) (d : HeldSector) → get_or xs k d ≡ get_or (drop k xs) 0 d
      first_from xs k d = let here : k + 0 ≡ k = omega arith in rw here at (sym (get_or-drop k xs 0 d))

  pub moved_rest : drop (from + (i + 1)) (swap now (to + i) (from + i)) ≡ drop (from + (i + 1)) old
  moved_rest =
      let d : HeldSector = some_place old (omega (arith, there)) in
      let back = swap_back now (to + i) (from + i) d (omega (arith, down)) (omega (arith, there, size)) in
      let count : from + i + 1 ≡ from + (i + 1) = omega arith in
      rw count at (back ∙ sym (drop-drop 1 (from + i) now) ∙ ap (drop 1) rest ∙ drop-drop 1 (from + i) old)

-- the same of the places in use
module _ (old now : List HeldSector) (held from to count : ℕ) (there : from + count ≤ held) (down : to ≤ from) where
  drop_used : (xs : List HeldSector) (k : ℕ) → k ≤ held → drop k (take held xs) ≡ take (held - k) (drop k xs)
  drop_used xs k le = let whole : k + (held - k) ≡ held = omega arith in rw whole at (drop-take k (held - k) xs)

  pub used_front : take (to + count) now ≡ take to old ++ take count (drop from old)
      → take (to + count) (take held now) ≡ take to (take held old) ++ take count (drop from (take held old))
  used_front moved =
      let run : take count (drop from (take held old)) ≡ take count (drop from old) =
      ap (take count) (drop_used old from (omega arith)) ∙ take-take count (held - from) (drop from old) (omega arith) in
      take-take (to + count) held now (omega arith) ∙ rw (take-take to held old (omega arith), run) moved

  pub used_rest : drop (from + count) now ≡ drop (from + count) old → drop (from + count) (take held now) ≡ drop (from + count) (take held old)
  used_rest rest = rw (drop_used now (from + count) there, drop_used old (from + count) there) (ap (take (held - (from + count))) rest)
