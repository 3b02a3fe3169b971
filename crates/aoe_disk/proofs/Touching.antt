-- What device calls leave of single sectors, for those who know only some of them.
use Rattle.std.proofs.Common.{◌≡◌, ◌≢◌, ◌≤◌, ◌<◌, ◌+◌, ◌-◌, ◌*◌, ◌/◌, ℕ, zero, suc, Bool, false, List, ◌++◌, length, take, drop, refl, arith, sym, ◌∙◌, ap, inl, inr, length-drop, take-append-drop}
use Rattle.std.proofs.lemmas.List.{length-take-le, take_at, drop-drop, drop-take, take-take, length-replicate, take_all}
use Rattle.std.proofs.Math.Seq.{take-length}
use Rattle.std.proofs.lemmas.Bool.{cases_lt}
use Rattle.aoe_disk.specs.State.{Contents, HasShape, with_piece, is_loose, sector}
use Rattle.aoe_disk.specs.Calls.{Puts, Spoils, Settles, MaySettle, IsRange, SameOutside}
use Rattle.aoe_disk.specs.Sectors.{IsOutside, Touches, Calms}
use Rattle.aoe_disk.proofs.Pieces.{drop_start-with_piece, with_piece_outside, length-with_marks, is_loose-with_marks_outside, is_loose-replicate}

take_add : {A : Type 0} (a b : ℕ) (xs : List A) → take (a + b) xs ≡ take a xs ++ take b (drop a xs)
take_add a b xs =
    sym (take-append-drop a (take (a + b) xs))
    ∙ ap (λ l. l ++ drop a (take (a + b) xs)) (take-take a (a + b) xs (omega arith))
    ∙ ap (λ l. take a xs ++ l) (drop-take a b xs)

pub length-sector : (xs : List ℕ) (s : ℕ) → 512 * s + 512 ≤ length xs → length (sector xs s) ≡ 512
length-sector xs s fits = length-take-le 512 (drop (512 * s) xs) (omega (arith, length-drop (512 * s) xs))

-- n sectors from lo on that agree one by one agree as a whole
pub range_same : (n lo : ℕ) (x y : List ℕ) → ((s : ℕ) → lo ≤ s → s < lo + n → sector x s ≡ sector y s)
    → take (512 * n) (drop (512 * lo) x) ≡ take (512 * n) (drop (512 * lo) y)
range_same zero lo x y same = refl
range_same (suc n) lo x y same =
    let size : 512 * suc n ≡ 512 + 512 * n = omega arith in
    let next : 512 * lo + 512 ≡ 512 * (lo + 1) = omega arith in
    let rest : take (512 * n) (drop (512 * lo + 512) x) ≡ take (512 * n) (drop (512 * lo + 512) y) =
    rw next (range_same n (lo + 1) x y (λ s l h. same s (omega arith) (omega arith))) in
    let one : take 512 (drop (512 * lo) x) ≡ take 512 (drop (512 * lo) y) = same lo (omega arith) (omega arith) in
    let split : (z : List ℕ) → take (512 * suc n) (drop (512 * lo) z) ≡ take 512 (drop (512 * lo) z) ++ take (512 * n) (drop (512 * lo + 512) z) =
    λ z. ap (λ (m : ℕ). take m (drop (512 * lo) z)) size ∙ take_add 512 (512 * n) (drop (512 * lo) z)
    ∙ ap (λ (l : List ℕ). take 512 (drop (512 * lo) z) ++ take (512 * n) l) (drop-drop 512 (512 * lo) z) in
    split x ∙ ap (λ (l : List ℕ). l ++ take (512 * n) (drop (512 * lo + 512) x)) one ∙ ap (λ (l : List ℕ). take 512 (drop (512 * lo) y) ++ l) rest
    ∙ sym (split y)

-- images that agree sector by sector are one
pub image_same : (n : ℕ) (x y : List ℕ) → length x ≡ 512 * n → length y ≡ 512 * n → ((s : ℕ) → s < n → sector x s ≡ sector y s) → x ≡ y
image_same n x y lx ly same =
    let whole : (z : List ℕ) → length z ≡ 512 * n → take (512 * n) (drop (512 * 0) z) ≡ z = λ z e. take_all (512 * n) z (omega arith) in
    sym (whole x lx) ∙ range_same n 0 x y (λ s l h. same s (omega arith)) ∙ whole y ly

-- a sector that ends within the first n bytes
pub sector_front : (x y : List ℕ) (s n : ℕ) → 512 * s + 512 ≤ n → take n x ≡ take n y → sector x s ≡ sector y s
sector_front x y s n le e =
    let cut : (z : List ℕ) → take 512 (drop (512 * s) z) ≡ drop (512 * s) (take (512 * s + 512) (take n z)) =
    λ z. sym (drop-take (512 * s) 512 z) ∙ ap (drop (512 * s)) (sym (take-take (512 * s + 512) n z le)) in
    cut x ∙ ap (λ (l : List ℕ). drop (512 * s) (take (512 * s + 512) l)) e ∙ sym (cut y)

-- a sector that begins at byte n or later
pub sector_back : (x y : List ℕ) (s n : ℕ) → n ≤ 512 * s → drop n x ≡ drop n y → sector x s ≡ sector y s
sector_back x y s n le e =
    let split : 512 * s ≡ n + (512 * s - n) = omega arith in
    let cut : (z : List ℕ) → take 512 (drop (512 * s) z) ≡ take 512 (drop (512 * s - n) (drop n z)) =
    λ z. ap (λ (m : ℕ). take 512 (drop m z)) split ∙ ap (take 512) (sym (drop-drop (512 * s - n) n z)) in
    cut x ∙ ap (λ (l : List ℕ). take 512 (drop (512 * s - n) l)) e ∙ sym (cut y)

-- a sector outside a range of n whole sectors, in whose bytes alone two images differ
pub sector_outside : (x y : List ℕ) (at n s : ℕ) → SameOutside (512 * at) (512 * n) x y → IsOutside at n s → sector y s ≡ sector x s
sector_outside x y at n s same (inl below) = sector_front y x s (512 * at) (omega arith) same.before
sector_outside x y at n s same (inr above) = sector_back y x s (512 * at + 512 * n) (omega arith) same.after

-- what a read of n bytes gives of its k-th sector
pub sector-read : (bytes : List ℕ) (at n k : ℕ) → 512 * k + 512 ≤ n → sector (take n (drop (512 * at) bytes)) k ≡ sector bytes (at + k)
sector-read bytes at n k fits =
    let from : 512 * at + 512 * k ≡ 512 * (at + k) = omega arith in
    sector_front (take n (drop (512 * at) bytes)) (drop (512 * at) bytes) k n fits (take-take n n (drop (512 * at) bytes) (omega arith))
    ∙ ap (take 512) (drop-drop (512 * k) (512 * at) bytes) ∙ ap (λ (m : ℕ). take 512 (drop m bytes)) from

-- what stands in a sector that a piece was written to
pub sector-with_piece : (bytes piece : List ℕ) (at k : ℕ) → 512 * at + length piece ≤ length bytes → 512 * k + 512 ≤ length piece
    → sector (with_piece bytes (512 * at) piece) (at + k) ≡ sector piece k
sector-with_piece bytes piece at k fits inside =
    let from : 512 * (at + k) ≡ 512 * at + 512 * k = omega arith in
    let there = drop_start-with_piece bytes (512 * at) piece fits in
    ap (λ (m : ℕ). take 512 (drop m (with_piece bytes (512 * at) piece))) from
    ∙ ap (take 512) (sym (drop-drop (512 * k) (512 * at) (with_piece bytes (512 * at) piece)))
    ∙ ap (λ (l : List ℕ). take 512 (drop (512 * k) l)) there
    ∙ sector_front (piece ++ drop (512 * at + length piece) bytes) piece k (length piece) inside
    (take_at piece (drop (512 * at + length piece) bytes) (length piece) refl ∙ sym (take-length piece))

-- one sector that was written, and the others
pub sector-with_sector : (bytes piece : List ℕ) (s : ℕ) → length piece ≡ 512 → 512 * s + 512 ≤ length bytes
    → sector (with_piece bytes (512 * s) piece) s ≡ piece
sector-with_sector bytes piece s size fits = ap (take 512) (drop_start-with_piece bytes (512 * s) piece (omega arith))
    ∙ take_at piece (drop (512 * s + length piece) bytes) 512 size

pub sector-with_sector_other : (bytes piece : List ℕ) (s t : ℕ) → length piece ≡ 512 → 512 * s + 512 ≤ length bytes → t ≢ s
    → sector (with_piece bytes (512 * s) piece) t ≡ sector bytes t
sector-with_sector_other bytes piece s t size fits other = elim (cases_lt t s) [
  | inl below ↦ sector_outside bytes (with_piece bytes (512 * s) piece) s 1 t (with_piece_outside bytes (512 * s) piece (omega arith) 512 (omega arith))
      (inl below)
  | inr above ↦ sector_outside bytes (with_piece bytes (512 * s) piece) s 1 t (with_piece_outside bytes (512 * s) piece (omega arith) 512 (omega arith))
      (inr (omega arith))
]

pub puts_touch : (at : ℕ) (piece : List ℕ) (old new : Contents) (sectors : ℕ) → HasShape sectors old → IsRange at (length piece) sectors → Puts at piece old new
    → Touches at (length piece / 512) old new
puts_touch at piece old new sectors shape range puts =
    let fits : 512 * at + length piece ≤ length old.bytes = omega (arith, shape.bytes, range.whole, range.within) in
    let marks : at + length piece / 512 ≤ length old.loose = omega (arith, shape.marks, range.within) in
    let same : SameOutside (512 * at) (512 * (length piece / 512)) old.bytes new.bytes =
    rw puts.bytes (with_piece_outside old.bytes (512 * at) piece fits (512 * (length piece / 512)) (omega (arith, range.whole))) in
    record {
      size = same.size;
      marks = ap length puts.loose ∙ length-with_marks old.loose at (length piece / 512) marks;
      same = λ s out. sector_outside old.bytes new.bytes at (length piece / 512) s same out;
      kept = λ s out e. ap (λ (l : List Bool). is_loose l s) puts.loose ∙ is_loose-with_marks_outside old.loose at (length piece / 512) marks s out ∙ e;
    }

pub spoils_touch : (at n : ℕ) (old new : Contents) (sectors : ℕ) → HasShape sectors old → IsRange at n sectors → Spoils at n old new
    → Touches at (n / 512) old new
spoils_touch at n old new sectors shape range spoils =
    let marks : at + n / 512 ≤ length old.loose = omega (arith, shape.marks, range.within) in
    let same : SameOutside (512 * at) (512 * (n / 512)) old.bytes new.bytes = rw range.whole spoils.bytes in
    record {
      size = spoils.bytes.size;
      marks = ap length spoils.loose ∙ length-with_marks old.loose at (n / 512) marks;
      same = λ s out. sector_outside old.bytes new.bytes at (n / 512) s same out;
      kept = λ s out e. ap (λ (l : List Bool). is_loose l s) spoils.loose ∙ is_loose-with_marks_outside old.loose at (n / 512) marks s out ∙ e;
    }

pub calm_refl : (a : Contents) → Calms a a
calm_refl a = record { bytes = refl; marks = refl; kept = λ s e. e }

pub settles_calm : (old new : Contents) → Settles old new → Calms old new
settles_calm old new e = record {
  bytes = e.bytes;
  marks = ap length e.loose ∙ length-replicate (length old.loose) false;
  kept = λ s _. ap (λ (l : List Bool). is_loose l s) e.loose ∙ is_loose-replicate (length old.loose) s;
}

pub may_settle_calm : (old new : Contents) → MaySettle old new → Calms old new
may_settle_calm old new e = record { bytes = e.bytes; marks = e.marks; kept = e.fewer }

-- after an Ok sync no sector is loose
pub settles_kept : (old new : Contents) → Settles old new → (s : ℕ) → is_loose new.loose s ≡ false
settles_kept old new e s = ap (λ (l : List Bool). is_loose l s) e.loose ∙ is_loose-replicate (length old.loose) s
