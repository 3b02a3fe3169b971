-- Two sides and what is seen of them, sector by sector.
use Rattle.std.proofs.Common.{◌≡◌, ◌≤◌, ◌<◌, ◌+◌, ◌-◌, ◌*◌, ◌/◌, ◌⊎◌, ◌||◌, ◌&&◌, ℕ, Bool, true, false, List, length, refl, sym, ap, ◌∙◌, inl, inr, arith, ext_get_or}
use Rattle.std.proofs.lemmas.Bool.{both_ways, cases_lt}
use Rattle.std.proofs.lemmas.List.{get_or_past}
use Rattle.std.proofs.lemmas.List.FromFn.{length-map-range_with_len, get_or-map-range_with_len}
use Rattle.aoe_disk.specs.State.{Contents, HasShape, is_loose, sector, with_marks, with_piece}
use Rattle.aoe_disk.specs.Calls.{IsRange, Puts, Spoils}
use Rattle.aoe_disk.specs.Sectors.{IsOutside}
use Rattle.aoe_disk.proofs.Pieces.{length-with_marks, is_loose-with_marks_outside, is_loose-with_marks_inside}
use Rattle.aoe_disk.proofs.Touching.{image_same, puts_touch, sector-with_piece, spoils_touch}
use Rattle.aoe_mirror.specs.Marks.{with_each}
use Rattle.aoe_mirror.specs.Sides.{Agree, is_loose_in, loose_of, seen}
use Rattle.aoe_mirror.proofs.Bits.{length-with_each, with_each_outside}

pub length-loose_of : (stale lead follower : List Bool) → length (loose_of stale lead follower) ≡ length stale
unfolding loose_of
length-loose_of stale lead follower = length-map-range_with_len (is_loose_in stale lead follower) 0 (length stale)

past_all : (stale lead follower : List Bool) (s : ℕ) → length lead ≤ s → length follower ≤ s → is_loose_in stale lead follower s ≡ false
past_all stale lead follower s l f = rw (get_or_past lead s false l, get_or_past follower s false f) refl

pub loose_at : (stale lead follower : List Bool) (s : ℕ) → length lead ≡ length stale → length follower ≡ length stale
    → is_loose (loose_of stale lead follower) s ≡ is_loose_in stale lead follower s
unfolding loose_of
loose_at stale lead follower s l f = elim (cases_lt s (length stale)) [
  | inl within ↦ get_or-map-range_with_len (is_loose_in stale lead follower) 0 (length stale) s s false within (omega arith)
  | inr past ↦ get_or_past (loose_of stale lead follower) s false (omega (arith, length-loose_of stale lead follower))
      ∙ sym (past_all stale lead follower s (omega arith) (omega arith))
]

-- two sides of n sectors
pub record Fit (n : ℕ) (stale : List Bool) (sides : Contents × Contents) : Type 0 where
  pub lead : HasShape n sides.0
  pub follower : HasShape n sides.1
  pub marks : length stale ≡ n

pub seen_shape : (n : ℕ) (stale : List Bool) (sides : Contents × Contents) → Fit n stale sides → HasShape n (seen stale sides)
seen_shape n stale sides fit = record { bytes = fit.lead.bytes; marks = length-loose_of stale sides.0.loose sides.1.loose ∙ fit.marks; settled = tt }

pub seen_at : (n : ℕ) (stale : List Bool) (sides : Contents × Contents) (s : ℕ) → Fit n stale sides
    → is_loose (seen stale sides).loose s ≡ is_loose_in stale sides.0.loose sides.1.loose s
seen_at n stale sides s fit = loose_at stale sides.0.loose sides.1.loose s (fit.lead.marks ∙ sym fit.marks) (fit.follower.marks ∙ sym fit.marks)

-- a list of marks that is as it was outside a range
pub record SameMarks (at n : ℕ) (old new : List Bool) : Type 0 where
  pub size : length new ≡ length old
  pub same : (s : ℕ) → IsOutside at n s → is_loose new s ≡ is_loose old s

-- a disk of which n sectors from sector at on were written, or not
pub record Beside (at n : ℕ) (old new : Contents) : Type 0 where
  pub size : length new.bytes ≡ length old.bytes
  pub marks : SameMarks at n old.loose new.loose
  pub same : (s : ℕ) → IsOutside at n s → sector new.bytes s ≡ sector old.bytes s

pub same_marks_refl : (at n : ℕ) (marks : List Bool) → SameMarks at n marks marks
same_marks_refl at n marks = record { size = refl; same = λ s _. refl }

pub beside_refl : (at n : ℕ) (c : Contents) → Beside at n c c
beside_refl at n c = record { size = refl; marks = same_marks_refl at n c.loose; same = λ s _. refl }

pub same_marks_each : (marks : List Bool) (at n : ℕ) (value : Bool) → at + n ≤ length marks → SameMarks at n marks (with_each marks at n value)
same_marks_each marks at n value fits = record { size = length-with_each marks at n value fits; same = with_each_outside marks at n value fits }

pub puts_beside : (at : ℕ) (piece : List ℕ) (old new : Contents) (sectors : ℕ) → HasShape sectors old → IsRange at (length piece) sectors
    → Puts at piece old new → Beside at (length piece / 512) old new
puts_beside at piece old new sectors shape range puts =
    let touch = puts_touch at piece old new sectors shape range puts in
    let fits : at + length piece / 512 ≤ length old.loose = omega (arith, shape.marks, range.within) in
    record { size = touch.size; marks = rw puts.loose (same_marks_each old.loose at (length piece / 512) true fits); same = touch.same }

pub spoils_beside : (at n : ℕ) (old new : Contents) (sectors : ℕ) → HasShape sectors old → IsRange at n sectors → Spoils at n old new
    → Beside at (n / 512) old new
spoils_beside at n old new sectors shape range spoils =
    let touch = spoils_touch at n old new sectors shape range spoils in
    let fits : at + n / 512 ≤ length old.loose = omega (arith, shape.marks, range.within) in
    record { size = touch.size; marks = rw spoils.loose (same_marks_each old.loose at (n / 512) true fits); same = touch.same }

pub cases_range : (at n s : ℕ) → IsOutside at n s ⊎ ((at ≤ s) × (s < at + n))
cases_range at n s = elim (cases_lt s at) [
  | inl lt ↦ inl (inl lt)
  | inr ge ↦ elim (cases_lt s (at + n)) [
    | inl lt ↦ inr (omega arith, lt)
    | inr le ↦ inl (inr le)
  ]
]

-- A WRITE: the lead's sectors were written, and the follower's or not

module _ (sectors at n : ℕ) (stale stale' : List Bool) (old new : Contents × Contents) (fit : Fit sectors stale old) (fits : at + n ≤ sectors)
    (lead : Beside at n old.0 new.0) (loose : new.0.loose ≡ with_marks old.0.loose at n) (follower : Beside at n old.1 new.1)
    (marks : SameMarks at n stale stale') where
  written_inside : (s : ℕ) → at ≤ s → s < at + n → is_loose new.0.loose s ≡ true
  written_inside s low high = ap (λ l. is_loose l s) loose ∙ is_loose-with_marks_inside old.0.loose at n (omega (arith, fit.lead.marks)) s low high

  same_in : (s : ℕ) → IsOutside at n s → is_loose_in stale' new.0.loose new.1.loose s ≡ is_loose_in stale old.0.loose old.1.loose s
  same_in s out = rw (lead.marks.same s out, follower.marks.same s out, marks.same s out) refl

  -- the marks of the mirror
  pub loose_written : loose_of stale' new.0.loose new.1.loose ≡ with_marks (loose_of stale old.0.loose old.1.loose) at n
  loose_written =
      let seen_loose : List Bool = loose_of stale old.0.loose old.1.loose in
      let size = length-loose_of stale old.0.loose old.1.loose in
      let room : at + n ≤ length seen_loose = omega (arith, size, fit.marks) in
      ext_get_or false _ _ (length-loose_of stale' new.0.loose new.1.loose ∙ marks.size ∙ sym size ∙ sym (length-with_marks seen_loose at n room)) (λ s _.
      loose_at stale' new.0.loose new.1.loose s (lead.marks.size ∙ fit.lead.marks ∙ sym (marks.size ∙ fit.marks))
      (follower.marks.size ∙ fit.follower.marks ∙ sym (marks.size ∙ fit.marks))
      ∙ elim (cases_range at n s) [
        | inl out ↦ same_in s out ∙ sym (loose_at stale old.0.loose old.1.loose s (fit.lead.marks ∙ sym fit.marks) (fit.follower.marks ∙ sym fit.marks))
            ∙ sym (is_loose-with_marks_outside seen_loose at n room s out)
        | inr in_range ↦ rw (written_inside s in_range.0 in_range.1) (sym (is_loose-with_marks_inside seen_loose at n room s in_range.0 in_range.1))
      ])

  -- the sides agree as before, where they do within the range
  pub agree_written : (settled : Bool) → Agree settled stale old
      → ((s : ℕ) → at ≤ s → s < at + n → is_loose stale' s ≡ false → sector new.1.bytes s ≡ sector new.0.bytes s) → Agree settled stale' new
  agree_written settled agree inside = record {
    same = λ s off. elim (cases_range at n s) [
      | inl out ↦ follower.same s out ∙ agree.same s (sym (marks.same s out) ∙ off) ∙ sym (lead.same s out)
      | inr in_range ↦ inside s in_range.0 in_range.1 off
    ];
    unsettled = λ not_yet s on. elim (cases_range at n s) [
      | inl out ↦ lead.marks.same s out ∙ agree.unsettled not_yet s (sym (marks.same s out) ∙ on)
      | inr in_range ↦ written_inside s in_range.0 in_range.1
    ];
  }

-- a piece that stands on both sides
pub same_piece : (at : ℕ) (piece : List ℕ) (sectors : ℕ) (a b a' b' : Contents) → HasShape sectors a → HasShape sectors b → IsRange at (length piece) sectors
    → a'.bytes ≡ with_piece a.bytes (512 * at) piece → b'.bytes ≡ with_piece b.bytes (512 * at) piece
    → (s : ℕ) → at ≤ s → s < at + length piece / 512 → sector b'.bytes s ≡ sector a'.bytes s
same_piece at piece sectors a b a' b' sa sb range ea eb s low high =
    let k : ℕ = s - at in
    let here : at + k ≡ s = omega arith in
    let inside : 512 * k + 512 ≤ length piece = omega (arith, range.whole) in
    let one = sector-with_piece a.bytes piece at k (omega (arith, sa.bytes, range.whole, range.within)) inside in
    let two = sector-with_piece b.bytes piece at k (omega (arith, sb.bytes, range.whole, range.within)) inside in
    rw (ea, eb) (rw here at (two ∙ sym one))

-- NOTHING IS STALE: either side can lead

module _ (sectors : ℕ) (stale : List Bool) (sides : Contents × Contents) (fit : Fit sectors stale sides) (whole : (s : ℕ) → is_loose stale s ≡ false) where
  abbrev pub swapped : Contents × Contents
  swapped = (sides.1, sides.0)

  pub fit_swapped : Fit sectors stale swapped
  fit_swapped = record { lead = fit.follower; follower = fit.lead; marks = fit.marks }

  or_swap : (x y : Bool) → (x || (y && true)) ≡ (y || (x && true))
  or_swap true true = refl
  or_swap true false = refl
  or_swap false true = refl
  or_swap false false = refl

  loose_swapped : loose_of stale sides.1.loose sides.0.loose ≡ loose_of stale sides.0.loose sides.1.loose
  loose_swapped = ext_get_or false _ _ (length-loose_of stale sides.1.loose sides.0.loose ∙ sym (length-loose_of stale sides.0.loose sides.1.loose)) (λ s _.
      seen_at sectors stale swapped s fit_swapped ∙ rw (whole s) (or_swap (is_loose sides.1.loose s) (is_loose sides.0.loose s))
      ∙ sym (seen_at sectors stale sides s fit))

  pub seen_swapped : (settled : Bool) → Agree settled stale sides → seen stale swapped ≡ seen stale sides
  seen_swapped settled agree =
      let bytes = image_same sectors sides.1.bytes sides.0.bytes fit.follower.bytes fit.lead.bytes (λ s _. agree.same s (whole s)) in
      rw (bytes, loose_swapped) refl

  pub agree_swapped : (settled settled' : Bool) → Agree settled stale sides → Agree settled' stale swapped
  agree_swapped settled settled' agree = record {
    same = λ s off. sym (agree.same s off);
    unsettled = λ _ s on. absurd (both_ways (is_loose stale s) (whole s) on);
  }
