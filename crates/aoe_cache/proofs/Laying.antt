-- Sectors laid over the bytes of a disk, and over those that were read from it.
use Rattle.std.proofs.Common.{◌≡◌, ◌≤◌, ◌<◌, ◌+◌, ◌-◌, ◌*◌, ◌++◌, ℕ, zero, suc, List, [], ◌∷◌, Some, None, length, take, drop, get_or, refl, sym, arith, ◌∙◌, ap, append_assoc, length-append, length-drop, take-append-drop}
use Rattle.std.proofs.lemmas.List.{length-take, length-take-le, drop-take, take-take, take-append-le, drop-append-le, drop-drop, take_more}
use Rattle.aoe_disk.specs.State.{with_piece}
use Rattle.aoe_disk.proofs.Pieces.{drop_past-with_piece}
use Rattle.aoe_cache.specs.declared.place.HeldSector.{HeldSector}
use Rattle.aoe_cache.specs.Held.{IsAscending, AreBelow, count_below, held_for, laid_over}
use Rattle.aoe_cache.proofs.Ascending.{ascending_take, ascending_count, below_count, count_absent, count_held, stands_at, stands_there, whole_at}

pub laid_append : (bytes : List ℕ) (xs ys : List HeldSector) → laid_over bytes (xs ++ ys) ≡ laid_over (laid_over bytes xs) ys
laid_append bytes [] ys = refl
laid_append bytes (x ∷ xs) ys = laid_append (with_piece bytes (512 * x.at) x.bytes) xs ys

-- a piece makes no list shorter, and changes nothing before it

piece_longer : (xs p : List ℕ) (i : ℕ) → length xs ≤ length (with_piece xs i p)
piece_longer xs p i = omega (
  arith,
  length-append (take i xs ++ p) (drop (i + length p) xs),
  length-append (take i xs) p,
  length-take i xs,
  length-drop
      (i + length p) xs,
)

take_before_piece : (xs p : List ℕ) (i m : ℕ) → m ≤ i → m ≤ length xs → take m (with_piece xs i p) ≡ take m xs
take_before_piece xs p i m le fits =
    ap (take m) (append_assoc (take i xs) p (drop (i + length p) xs))
    ∙ take-append-le m (take i xs) (p ++ drop (i + length p) xs) (omega (arith, length-take i xs)) ∙ take-take m i xs le

laid_longer : (bytes : List ℕ) (hs : List HeldSector) → length bytes ≤ length (laid_over bytes hs)
laid_longer bytes [] = omega arith
laid_longer bytes (h ∷ hs) = omega (arith, piece_longer bytes h.bytes (512 * h.at), laid_longer (with_piece bytes (512 * h.at) h.bytes) hs)

-- sectors below a range, and sectors above it

laid_below : (low at : ℕ) (bytes : List ℕ) (hs : List HeldSector) → IsAscending low hs → AreBelow at hs → 512 * at ≤ length bytes
    → drop (512 * at) (laid_over bytes hs) ≡ drop (512 * at) bytes
laid_below low at bytes [] order b fits = refl
laid_below low at bytes (h ∷ hs) order b fits =
    let rest : 512 * h.at + (512 * at - 512 * h.at) ≡ 512 * at = omega (arith, b.0) in
    let past = drop_past-with_piece bytes (512 * h.at) h.bytes (omega (arith, b.0, order.1)) (512 * at - 512 * h.at) (omega (arith, b.0, order.1)) in
    laid_below (h.at + 1) at (with_piece bytes (512 * h.at) h.bytes) hs order.2 b.1 (omega (arith, piece_longer bytes h.bytes (512 * h.at))) ∙ (rw rest at past)

laid_above : (low m : ℕ) (bytes : List ℕ) (hs : List HeldSector) → IsAscending low hs → m ≤ 512 * low → m ≤ length bytes
    → take m (laid_over bytes hs) ≡ take m bytes
laid_above low m bytes [] order le fits = refl
laid_above low m bytes (h ∷ hs) order le fits =
    laid_above (h.at + 1) m (with_piece bytes (512 * h.at) h.bytes) hs order.2 (omega (arith, order.0)) (omega (arith, piece_longer bytes h.bytes (512 * h.at)))
    ∙ take_before_piece bytes h.bytes (512 * h.at) m (omega (arith, order.0)) fits

-- a piece within a range, seen from the range

take_past : (n : ℕ) (xs ys : List ℕ) → length xs ≤ n → take n (xs ++ ys) ≡ xs ++ take (n - length xs) ys
take_past n [] ys le = let e : n - 0 ≡ n = omega arith in rw e refl
take_past zero (x ∷ xs) ys le = absurd (omega arith)
take_past (suc n) (x ∷ xs) ys le = let e : suc n - suc (length xs) ≡ n - length xs = omega arith in rw e (λ i. x ∷ take_past n xs ys (omega arith) i)

piece_within : (b p : List ℕ) (a n i : ℕ) → a ≤ i → i + length p ≤ a + n → a + n ≤ length b
    → take n (drop a (with_piece b i p)) ≡ with_piece (take n (drop a b)) (i - a) p
piece_within b p a n i from to fits =
    let k : ℕ = i - a + length p in
    let F : List ℕ = take (i - a) (drop a b) in
    let li : length (take i b) ≡ i = length-take-le i b (omega arith) in
    let lf : length F ≡ i - a = length-take-le (i - a) (drop a b) (omega (arith, length-drop a b)) in
    let whole : a + (i - a) ≡ i = omega arith in
    let size : k + (n - k) ≡ n = omega arith in
    let end : a + k ≡ i + length p = omega arith in
    let lfp : length (F ++ p) ≡ k = omega (arith, length-append F p, lf) in
    let front : drop a (take i b) ≡ F = (λ j. drop a (take (sym whole j) b)) ∙ drop-take a (i - a) b in
    let left : drop a (with_piece b i p) ≡ (F ++ p) ++ drop (i + length p) b =
    drop-append-le a (take i b ++ p) _ (omega (arith, length-append (take i b) p, li)) ∙ rw (drop-append-le a (take i b) p (omega (arith, li)), front) refl in
    let back : drop k (take n (drop a b)) ≡ take (n - k) (drop (i + length p) b) =
    (λ j. drop k (take (sym size j) (drop a b))) ∙ drop-take k (n - k) (drop a b) ∙ rw (drop-drop k a b, end) refl in
    ap (take n) left ∙ take_past n (F ++ p) _ (omega (arith, lfp)) ∙ rw (take-take (i - a) n (drop a b) (omega arith), back, lfp) refl

-- laying over what was read, sector by sector

module _ (at n : ℕ) (bytes : List ℕ) (hs : List HeldSector) (fits : 512 * at + 512 * n ≤ length bytes) (order : IsAscending 0 hs) where
  pub lay_first : take (512 * n) (drop (512 * at) bytes) ≡ take (512 * n) (drop (512 * at) (laid_over bytes (take (count_below at hs) hs)))
  lay_first = ap (take (512 * n))
      (sym (laid_below 0 at bytes (take (count_below at hs) hs) (ascending_take 0 (count_below at hs) hs order) (below_count at hs) (omega arith)))

  lay_more : (i : ℕ) (h : HeldSector) (out : List ℕ) → i < length hs → h ≡ get_or hs i h → at ≤ h.at → h.at < at + n → length h.bytes ≡ 512
      → out ≡ take (512 * n) (drop (512 * at) (laid_over bytes (take i hs)))
      → with_piece out (512 * (h.at - at)) h.bytes ≡ take (512 * n) (drop (512 * at) (laid_over bytes (take (i + 1) hs)))
  lay_more i h out lt is low high whole so =
      let off : 512 * h.at - 512 * at ≡ 512 * (h.at - at) = omega arith in
      let far : 512 * at + 512 * n ≤ length (laid_over bytes (take i hs)) = omega (arith, fits, laid_longer bytes (take i hs)) in
      let one : take (i + 1) hs ≡ take i hs ++ h ∷ [] = take_more hs i h lt ∙ (λ j. take i hs ++ sym is j ∷ []) in
      let within = piece_within (laid_over bytes (take i hs)) h.bytes (512 * at) (512 * n) (512 * h.at) (omega arith) (omega (arith, whole, high)) far in
      rw (so, ← off, one, laid_append bytes (take i hs) (h ∷ [])) (sym within)

  -- at a sector that is held, and at one that isn't
  pub lay_next : (i : ℕ) (h : HeldSector) (out : List ℕ) → i < n → h.at ≡ at + i → held_for hs (at + i) ≡ Some h.bytes
      → out ≡ take (512 * n) (drop (512 * at) (laid_over bytes (take (count_below (at + i) hs) hs)))
      → with_piece out (512 * (h.at - at)) h.bytes ≡ take (512 * n) (drop (512 * at) (laid_over bytes (take (count_below (at + (i + 1)) hs) hs)))
  lay_next i h out lt number some so =
      let k : ℕ = count_below (at + i) hs in
      let there : k < length hs = stands_at (at + i) h.bytes 0 hs order some in
      let is : h ≡ get_or hs k h = stands_there (at + i) 0 h hs number order some in
      let whole : length h.bytes ≡ 512 = rw (← is) at (whole_at 0 hs k h order there) in
      let next : count_below (at + (i + 1)) hs ≡ k + 1 =
      let far : at + (i + 1) ≡ at + i + 1 = omega arith in rw far (count_held (at + i) h.bytes 0 hs order some) in
      rw next (lay_more k h out there is (omega (arith, number)) (omega (arith, number, lt)) whole so)

  pub lay_none : (i : ℕ) → held_for hs (at + i) ≡ None → count_below (at + i) hs ≡ count_below (at + (i + 1)) hs
  lay_none i none = let next : at + (i + 1) ≡ at + i + 1 = omega arith in rw next (sym (count_absent 0 (at + i) hs order none))

  pub lay_last : take (512 * n) (drop (512 * at) (laid_over bytes (take (count_below (at + n) hs) hs))) ≡ take (512 * n) (drop (512 * at) (laid_over bytes hs))
  lay_last =
      let k : ℕ = count_below (at + n) hs in
      let some : List ℕ = laid_over bytes (take k hs) in
      let split : laid_over bytes hs ≡ laid_over some (drop k hs) =
      (λ j. laid_over bytes (sym (take-append-drop k hs) j)) ∙ laid_append bytes (take k hs) (drop k hs) in
      let same : take (512 * at + 512 * n) (laid_over some (drop k hs)) ≡ take (512 * at + 512 * n) some =
      laid_above (at + n) _ some _ (ascending_count 0 (at + n) hs order) (omega arith) (omega (arith, laid_longer bytes (take k hs))) in
      sym (drop-take (512 * at) (512 * n) some) ∙ ap (drop (512 * at)) (sym same) ∙ drop-take (512 * at) (512 * n) _
      ∙ (λ j. take (512 * n) (drop (512 * at) (sym split j)))
