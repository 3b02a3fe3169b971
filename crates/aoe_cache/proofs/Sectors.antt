-- Buffered sectors over the sectors of a disk, one by one.
use Rattle.std.proofs.Common.{◌≡◌, ◌≤◌, ◌<◌, ◌+◌, ◌-◌, ◌*◌, ◌⊎◌, ◌||◌, ◌++◌, ℕ, Bool, false, List, [], ◌∷◌, Option, Some, None, is_some, unwrap_or, length, refl, sym, arith, ◌∙◌, ap, inl, inr}
use Rattle.std.proofs.lemmas.Bool.{cases_lt}
use Rattle.std.proofs.lemmas.Bool.Decides.{nat_tests}
use Rattle.std.proofs.lemmas.List.{ext_get_or}
use Rattle.aoe_disk.specs.State.{with_piece, with_marks, is_loose, sector}
use Rattle.aoe_disk.specs.Sectors.{IsOutside}
use Rattle.aoe_disk.proofs.Pieces.{length-with_piece, with_piece_outside, length-with_marks, is_loose-with_marks_outside, is_loose-with_marks_inside}
use Rattle.aoe_disk.proofs.Touching.{image_same, sector_outside, sector-with_piece, sector-with_sector, sector-with_sector_other}
use Rattle.aoe_cache.specs.declared.place.HeldSector.{HeldSector}
use Rattle.aoe_cache.specs.Held.{IsAscending, AreBelow, held_for, with_written, laid_over, marked}
use Rattle.aoe_cache.proofs.Ascending.{AreHeld, ascending_written, below_written, held_front, held_low, held_past, held_written_below, held_written_above, held_written_inside}

-- sizes

pub length-laid : (low sectors : ℕ) (bytes : List ℕ) (hs : List HeldSector) → IsAscending low hs → AreBelow sectors hs → length bytes ≡ 512 * sectors
    → length (laid_over bytes hs) ≡ 512 * sectors
length-laid low sectors bytes [] order b size = size
length-laid low sectors bytes (h ∷ hs) order b size =
    let new = length-with_piece bytes (512 * h.at) h.bytes (omega (arith, size, order.1, b.0)) in
    length-laid (h.at + 1) sectors (with_piece bytes (512 * h.at) h.bytes) hs order.2 b.1 (new ∙ size)

pub length-marked : (sectors : ℕ) (loose : List Bool) (hs : List HeldSector) → AreBelow sectors hs → length loose ≡ sectors → length (marked loose hs) ≡ sectors
length-marked sectors loose [] b size = size
length-marked sectors loose (h ∷ hs) b size =
    length-marked sectors (with_marks loose h.at 1) hs b.1 (length-with_marks loose h.at 1 (omega (arith, size, b.0)) ∙ size)

-- what stands for a sector, or nothing

pub cases_held : (o : Option (List ℕ)) → (o ≡ None) ⊎ ((p : List ℕ) × (o ≡ Some p))
cases_held None = inl refl
cases_held (Some p) = inr (p, refl)

module _ (s sectors : ℕ) where
  pub laid_at : (low : ℕ) (bytes : List ℕ) (hs : List HeldSector) → IsAscending low hs → AreBelow sectors hs → length bytes ≡ 512 * sectors
      → sector (laid_over bytes hs) s ≡ unwrap_or (held_for hs s) (sector bytes s)
  laid_at low bytes [] order b size = refl
  laid_at low bytes (h ∷ hs) order b size =
      let fits : 512 * h.at + 512 ≤ length bytes = omega (arith, size, b.0) in
      let new = length-with_piece bytes (512 * h.at) h.bytes (omega (arith, fits, order.1)) in
      let rest = laid_at (h.at + 1) (with_piece bytes (512 * h.at) h.bytes) hs order.2 b.1 (new ∙ size) in
      grind (
        arith,
        nat_tests,
        rest,
        held_low (h.at + 1) s hs order.2,
        sector-with_sector bytes h.bytes h.at order.1 fits,
        sector-with_sector_other bytes h.bytes h.at s order.1 fits,
      )

  pub marked_at : (loose : List Bool) (hs : List HeldSector) → AreBelow sectors hs → length loose ≡ sectors
      → is_loose (marked loose hs) s ≡ (is_some (held_for hs s) || is_loose loose s)
  marked_at loose [] b size = refl
  marked_at loose (h ∷ hs) b size =
      let fits : h.at + 1 ≤ length loose = omega (arith, size, b.0) in
      let rest = marked_at (with_marks loose h.at 1) hs b.1 (length-with_marks loose h.at 1 fits ∙ size) in
      grind (arith, nat_tests, rest, is_loose-with_marks_outside loose h.at 1 fits s, is_loose-with_marks_inside loose h.at 1 fits s)

-- whole images and marks: what sectors come to over two disks that agree elsewhere

unwrap_same : (o : Option (List ℕ)) (x y : List ℕ) → (o ≡ None → x ≡ y) → unwrap_or o x ≡ unwrap_or o y
unwrap_same None x y same = same refl
unwrap_same (Some p) x y same = refl

or_same : (o : Option (List ℕ)) (x y : Bool) → (o ≡ None → x ≡ y) → (is_some o || x) ≡ (is_some o || y)
or_same None x y same = same refl
or_same (Some p) x y same = refl

module _ {sectors : ℕ} {hs : List HeldSector} (held : AreHeld sectors hs) where
  pub length-laid_over : (bytes : List ℕ) → length bytes ≡ 512 * sectors → length (laid_over bytes hs) ≡ 512 * sectors
  length-laid_over bytes size = length-laid 0 sectors bytes hs held.order held.below size

  laid_here : (bytes : List ℕ) → length bytes ≡ 512 * sectors → (s : ℕ) → sector (laid_over bytes hs) s ≡ unwrap_or (held_for hs s) (sector bytes s)
  laid_here bytes size s = laid_at s sectors 0 bytes hs held.order held.below size

  pub laid_over_same : (x y : List ℕ) → length x ≡ 512 * sectors → length y ≡ 512 * sectors
      → ((s : ℕ) → s < sectors → held_for hs s ≡ None → sector x s ≡ sector y s) → laid_over x hs ≡ laid_over y hs
  laid_over_same x y lx ly same =
      image_same sectors _ _ (length-laid_over x lx) (length-laid_over y ly)
      (λ s lt. laid_here x lx s ∙ unwrap_same (held_for hs s) _ _ (same s lt) ∙ sym (laid_here y ly s))

  pub marked_over_same : (x y : List Bool) → length x ≡ sectors → length y ≡ sectors
      → ((s : ℕ) → s < sectors → held_for hs s ≡ None → is_loose x s ≡ is_loose y s) → marked x hs ≡ marked y hs
  marked_over_same x y lx ly same =
      let size = length-marked sectors x hs held.below lx in
      ext_get_or false (marked x hs) (marked y hs) (size ∙ sym (length-marked sectors y hs held.below ly))
      (λ s lt. marked_at s sectors x hs held.below lx ∙ or_same (held_for hs s) _ _ (same s (omega (arith, lt, size)))
      ∙ sym (marked_at s sectors y hs held.below ly))

-- the same sectors before others that come to one thing, over two disks
module _ (xs : List HeldSector) {ys zs : List HeldSector} {sectors : ℕ} (one : AreHeld sectors (xs ++ ys)) (other : AreHeld sectors (xs ++ zs))
    (first : AreHeld sectors ys) (second : AreHeld sectors zs) where
  pub laid_front : (x y : List ℕ) → length x ≡ 512 * sectors → length y ≡ 512 * sectors → laid_over x ys ≡ laid_over y zs
      → laid_over x (xs ++ ys) ≡ laid_over y (xs ++ zs)
  laid_front x y lx ly same =
      image_same sectors _ _ (length-laid_over one x lx) (length-laid_over other y ly) (λ s lt. laid_here one x lx s ∙ elim (cases_held (held_for xs s)) [
        | inl none ↦ rw (held_past s xs ys none, held_past s xs zs none)
            (sym (laid_here first x lx s) ∙ ap (λ bytes. sector bytes s) same ∙ laid_here second y ly s)
        | inr p ↦ rw (held_front s p.0 xs ys p.1, held_front s p.0 xs zs p.1) refl
      ] ∙ sym (laid_here other y ly s))

  pub marked_front : (x y : List Bool) → length x ≡ sectors → length y ≡ sectors → marked x ys ≡ marked y zs → marked x (xs ++ ys) ≡ marked y (xs ++ zs)
  marked_front x y lx ly same =
      let size = length-marked sectors x _ one.below lx in
      ext_get_or false _ _ (size ∙ sym (length-marked sectors y _ other.below ly))
      (λ s lt. marked_at s sectors x _ one.below lx ∙ elim (cases_held (held_for xs s)) [
        | inl none ↦ rw (held_past s xs ys none, held_past s xs zs none)
            (sym (marked_at s sectors x ys first.below lx) ∙ ap (λ loose. is_loose loose s) same ∙ marked_at s sectors y zs second.below ly)
        | inr p ↦ rw (held_front s p.0 xs ys p.1, held_front s p.0 xs zs p.1) refl
      ] ∙ sym (marked_at s sectors y _ other.below ly))

-- a write to the buffer is one to what is seen of the disk
module _ (at n : ℕ) {sectors : ℕ} (piece : List ℕ) {hs : List HeldSector} (whole : length piece ≡ 512 * n) (fits : at + n ≤ sectors)
    (held : AreHeld sectors hs) where
  enough : 512 * n ≤ length piece
  enough = omega (arith, whole)

  pub held_written : AreHeld sectors (with_written at n piece hs)
  held_written = record { order = ascending_written at n piece hs enough held.order; below = below_written at n piece hs sectors fits held.below }

  outside_same : (s : ℕ) → IsOutside at n s → held_for (with_written at n piece hs) s ≡ held_for hs s
  outside_same s (inl lt) = held_written_below at n piece hs enough held.order s lt
  outside_same s (inr le) = held_written_above at n piece hs enough held.order s le

  inside_same : (k : ℕ) → k < n → held_for (with_written at n piece hs) (at + k) ≡ Some (sector piece k)
  inside_same = held_written_inside at n piece hs enough held.order

  cases_range : (s : ℕ) → IsOutside at n s ⊎ ((k : ℕ) × (k < n) × (at + k ≡ s))
  cases_range s = elim (cases_lt s at) [
    | inl lt ↦ inl (inl lt)
    | inr ge ↦ elim (cases_lt s (at + n)) [
      | inl lt ↦ inr (s - at, omega arith, omega arith)
      | inr le ↦ inl (inr le)
    ]
  ]

  pub laid_written : (bytes : List ℕ) → length bytes ≡ 512 * sectors → laid_over bytes (with_written at n piece hs)
      ≡ with_piece (laid_over bytes hs) (512 * at) piece
  laid_written bytes size =
      let seen : List ℕ = laid_over bytes hs in
      let ls : length seen ≡ 512 * sectors = length-laid_over held bytes size in
      let room : 512 * at + length piece ≤ length seen = omega (arith, ls, whole, fits) in
      let outside = with_piece_outside seen (512 * at) piece room (512 * n) (omega (arith, whole)) in
      image_same sectors _ _ (length-laid_over held_written bytes size) (outside.size ∙ ls)
      (λ s lt. laid_here held_written bytes size s ∙ elim (cases_range s) [
        | inl out ↦ rw (outside_same s out) (sym (laid_here held bytes size s) ∙ sym (sector_outside seen _ at n s outside out))
        | inr k ↦ rw (← k.2, inside_same k.0 k.1) (sym (sector-with_piece seen piece at k.0 room (omega (arith, whole, k.1))))
      ])

  pub marked_written : (loose : List Bool) → length loose ≡ sectors → marked loose (with_written at n piece hs) ≡ with_marks (marked loose hs) at n
  marked_written loose size =
      let seen : List Bool = marked loose hs in
      let ls : length seen ≡ sectors = length-marked sectors loose hs held.below size in
      let room : at + n ≤ length seen = omega (arith, ls, fits) in
      let lw = length-marked sectors loose (with_written at n piece hs) held_written.below size in
      ext_get_or false _ _ (lw ∙ sym (length-with_marks seen at n room ∙ ls))
      (λ s lt. marked_at s sectors loose _ held_written.below size ∙ elim (cases_range s) [
        | inl out ↦ rw (outside_same s out) (sym (marked_at s sectors loose hs held.below size) ∙ sym (is_loose-with_marks_outside seen at n room s out))
        | inr k ↦ rw (← k.2, inside_same k.0 k.1) (sym (is_loose-with_marks_inside seen at n room (at + k.0) (omega arith) (omega (arith, k.1))))
      ])
