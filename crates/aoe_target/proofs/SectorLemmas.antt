-- What calls of a store leave of what is known of its sectors.
use Rattle.std.proofs.Common.{◌≡◌, ◌≤◌, ◌<◌, ◌+◌, ◌-◌, ◌*◌, ◌/◌, ◌&&◌, ◌||◌, ◌==◌, cond, nat_le, nat_lt, ℕ, Bool, true, false, List, length, Option, Some, None, refl, sym, ap, subst, ◌∙◌, arith, inl, inr}
use Rattle.std.specs.Prelude.{IfSome, is_some}
use Rattle.std.specs.Option.{option_map}
use Rattle.std.proofs.lemmas.Bool.{cases_lt, cases_eq}
use Rattle.std.proofs.lemmas.Bool.Decides.{nat_tests}
use Rattle.aoe_base.specs.declared.sectors.Span.{Span}
use Rattle.aoe_disk.specs.State.{Contents, HasShape, BothTell, sector, is_loose, spoiled_sector, with_piece, with_marks}
use Rattle.aoe_disk.specs.Calls.{IsRange, Puts, Spoils, Settles, MaySettle}
use Rattle.aoe_disk.specs.Sectors.{IsOutside, Touches}
use Rattle.aoe_disk.proofs.Pieces.{is_loose-with_marks_inside, is_loose-with_marks_outside, length-spoiled_sector}
use Rattle.aoe_disk.proofs.Touching.{sector-with_piece, sector-with_sector, sector-with_sector_other, puts_touch, settles_kept}
use Rattle.aoe_store.specs.Store.{MaySpoil}
use Rattle.aoe_store.specs.Lasting.{MayLose, PutsToLast}
use Rattle.aoe_store.proofs.Spoiling.{may_spoil_touch}
use Rattle.aoe_target.specs.Sectors.{Sectors, Same, Agrees, in_span, value_in, sectors_of, puts, spoils, left_by_fault, settles}

before_span : (at n s : ℕ) → s < at → (nat_le at s && nat_lt s (at + n)) ≡ false
before_span at n s h = grind (arith, nat_tests)

behind_span : (at n s : ℕ) → at + n ≤ s → (nat_le at s && nat_lt s (at + n)) ≡ false
behind_span at n s h = grind (arith, nat_tests)

within_span : (at n s : ℕ) → at ≤ s → s < at + n → (nat_le at s && nat_lt s (at + n)) ≡ true
within_span at n s low high = grind (arith, nat_tests)

-- a sector is one of a span, or outside it
pub by_span : (span : Span) (s : ℕ) (P : Bool → Type 0) → (span.at ≤ s → s < span.at + span.count → P true) → (IsOutside span.at span.count s → P false)
    → P (in_span span s)
by_span span s P inside outside = elim (cases_lt s span.at) [
  | inl below ↦ subst P (sym (before_span span.at span.count s below)) (outside (inl below))
  | inr above ↦ elim (cases_lt s (span.at + span.count)) [
    | inl high ↦ subst P (sym (within_span span.at span.count s above high)) (inside above high)
    | inr past ↦ subst P (sym (behind_span span.at span.count s past)) (outside (inr past))
  ]
]

pub known_same : (x y : Option (List ℕ)) → x ≡ y → IfSome y (λ v. x ≡ Some v)
known_same x None e = tt
known_same x (Some v) e = e

-- who says the same knows as much
pub agrees_same : (a b : Sectors) → Same a b → Agrees a b
agrees_same a b same = record {
  known = λ s. known_same (a.known s) (b.known s) (same.known s);
  marks = λ s e. same.marks s ∙ e;
  exact = λ _. same;
}

pub agrees_self : (a : Sectors) → Agrees a a
agrees_self a = agrees_same a a (record { known = λ s. refl; marks = λ s. refl; settled = λ s. refl; exact = refl })

-- n bytes are whole sectors of a device
pub is_range : (at n count sectors : ℕ) → n ≡ 512 * count → 1 ≤ count → at + count ≤ sectors → IsRange at n sectors
is_range at n count sectors e some end =
    let m : n / 512 ≡ count = omega arith in
    record { some = omega arith; whole = omega arith; within = omega arith }

-- the marks of a span
marked : (old new : List Bool) (span : Span) (m : ℕ) → m ≡ span.count → new ≡ with_marks old span.at m → span.at + span.count ≤ length old → (s : ℕ)
    → is_loose new s ≡ (in_span span s || is_loose old s)
marked old new span m size e fits s =
    let P : ℕ → Type 0 = λ k. is_loose (with_marks old span.at k) s ≡ (in_span span s || is_loose old s) in
    ap (λ (l : List Bool). is_loose l s) e ∙ subst P (sym size)
    (by_span span s (λ t. is_loose (with_marks old span.at span.count) s ≡ (t || is_loose old s))
    (λ low high. is_loose-with_marks_inside old span.at span.count fits s low high)
    (λ out. is_loose-with_marks_outside old span.at span.count fits s out))

-- what is known of the sectors that were written, and of the others
put_known : (span : Span) (piece : List ℕ) (old new : Contents) (sectors : ℕ) → length piece ≡ 512 * span.count → span.at + span.count ≤ sectors
    → HasShape sectors old → new.bytes ≡ with_piece old.bytes (512 * span.at) piece → Touches span.at (length piece / 512) old new
    → (s : ℕ) → Some (sector new.bytes s) ≡ (puts span piece (sectors_of old)).known s
put_known span piece old new sectors size end shape bytes touch s =
    let m : length piece / 512 ≡ span.count = omega (arith, size) in
    by_span span s (λ t. Some (sector new.bytes s) ≡ cond t (Some (value_in span piece s)) (Some (sector old.bytes s)))
    (λ low high.
    let k : ℕ = s - span.at in
    let place : span.at + k ≡ s = omega arith in
    let there : sector (with_piece old.bytes (512 * span.at) piece) (span.at + k) ≡ sector piece k =
    sector-with_piece old.bytes piece span.at k (omega (arith, shape.bytes, size)) (omega (arith, size)) in
    let P : ℕ → Type 0 = λ i. sector (with_piece old.bytes (512 * span.at) piece) i ≡ sector piece k in
    ap Some (ap (λ (l : List ℕ). sector l s) bytes ∙ subst P place there))
    (λ out. let Q : ℕ → Type 0 = λ n. IsOutside span.at n s in ap Some (touch.same s (subst Q (sym m) out)))

-- a write that is done
pub put_same : (span : Span) (piece : List ℕ) (old new : Contents) (sectors : ℕ) → length piece ≡ 512 * span.count → 1 ≤ span.count
    → span.at + span.count ≤ sectors
    → HasShape sectors old → Puts span.at piece old new → Same (sectors_of new) (puts span piece (sectors_of old))
put_same span piece old new sectors size some end shape put =
    let m : length piece / 512 ≡ span.count = omega (arith, size) in
    let touch : Touches span.at (length piece / 512) old new =
    puts_touch span.at piece old new sectors shape (is_range span.at (length piece) span.count sectors size some end) put in
    record {
      known = put_known span piece old new sectors size end shape put.bytes touch;
      marks = marked old.loose new.loose span (length piece / 512) m put.loose (omega (arith, shape.marks));
      settled = λ s. ap (λ (o : Option (List ℕ)). option_map (λ bytes. sector bytes s) o) put.settled;
      exact = ap is_some put.settled;
    }

no_truth : true ≡ false → ⊥
no_truth e = (cc)

-- a write that failed, where it is known what that leaves
spoil_same : (span : Span) (n : ℕ) (old new : Contents) (sectors : ℕ) → n ≡ 512 * span.count → 1 ≤ span.count → span.at + span.count ≤ sectors
    → HasShape sectors old → is_some old.settled ≡ true → MaySpoil span.at n old new → Same (sectors_of new) (spoils span (sectors_of old))
spoil_same span n old new sectors size some end shape told may =
    let m : n / 512 ≡ span.count = omega (arith, size) in
    let exact : Spoils span.at n old new = may.exact told in
    let touch : Touches span.at (n / 512) old new = may_spoil_touch span.at n old new sectors (is_range span.at n span.count sectors size some end) may in
    record {
      known = λ s. by_span span s (λ t. Some (sector new.bytes s) ≡ cond t (left_by_fault (is_some old.settled) (s == span.at) (Some (sector old.bytes s)))
          (Some (sector old.bytes s)))
          (λ low high.
          let P : Bool → Type 0 = λ t. Some (sector new.bytes s) ≡ left_by_fault t (s == span.at) (Some (sector old.bytes s)) in
          subst P (sym told) (first span old new s (omega (arith, shape.bytes)) (exact.exact told)))
          (λ out. let Q : ℕ → Type 0 = λ k. IsOutside span.at k s in ap Some (touch.same s (subst Q (sym m) out)));
      marks = marked old.loose new.loose span (n / 512) m exact.loose (omega (arith, shape.marks));
      settled = λ s. ap (λ (o : Option (List ℕ)). option_map (λ bytes. sector bytes s) o) may.settled;
      exact = ap is_some may.settled;
    }
  where
    first : (span : Span) (old new : Contents) (s : ℕ) → 512 * span.at + 512 ≤ length old.bytes
        → new.bytes ≡ with_piece old.bytes (512 * span.at) spoiled_sector
        → Some (sector new.bytes s) ≡ left_by_fault true (s == span.at) (Some (sector old.bytes s))
    first span old new s fits e = elim (cases_eq s span.at) [
      | inl here ↦
          let yes : (s == span.at) ≡ true = grind (arith, nat_tests) in
          let P : Bool → Type 0 = λ t. Some (sector new.bytes s) ≡ left_by_fault true t (Some (sector old.bytes s)) in
          let Q : ℕ → Type 0 = λ i. sector (with_piece old.bytes (512 * span.at) spoiled_sector) i ≡ spoiled_sector in
          subst P (sym yes) (ap Some (ap (λ (l : List ℕ). sector l s) e
          ∙ subst Q (sym here) (sector-with_sector old.bytes spoiled_sector span.at length-spoiled_sector fits)))
      | inr other ↦
          let no : (s == span.at) ≡ false = grind (arith, nat_tests) in
          let P : Bool → Type 0 = λ t. Some (sector new.bytes s) ≡ left_by_fault true t (Some (sector old.bytes s)) in
          subst P (sym no) (ap Some (ap (λ (l : List ℕ). sector l s) e
          ∙ sector-with_sector_other old.bytes spoiled_sector span.at s length-spoiled_sector fits other))
    ]

-- a write that failed, where it isn't known what that leaves
pub lose_agrees : (span : Span) (n : ℕ) (old new : Contents) → n ≡ 512 * span.count → is_some old.settled ≡ false → Touches span.at (n / 512) old new
    → Agrees (sectors_of new) (spoils span (sectors_of old))
lose_agrees span n old new size untold touch = record {
  known = λ s. by_span span s (λ t. IfSome (cond t (left_by_fault (is_some old.settled) (s == span.at) (Some (sector old.bytes s))) (Some (sector old.bytes s)))
      (λ v. Some (sector new.bytes s) ≡ Some v))
      (λ low high.
      let P : Bool → Type 0 = λ t. IfSome (left_by_fault t (s == span.at) (Some (sector old.bytes s))) (λ v. Some (sector new.bytes s) ≡ Some v) in
      subst P (sym untold) (unknown (s == span.at) s))
      (λ out. ap Some (touch.same s (outside s out)));
  marks = λ s. by_span span s (λ t. (t || is_loose old.loose s) ≡ false → is_loose new.loose s ≡ false)
      (λ low high e. absurd (no_truth e))
      (λ out e. touch.kept s (outside s out) e);
  exact = λ e. absurd (no_truth (sym e ∙ untold));
}
  where
    outside : (s : ℕ) → IsOutside span.at span.count s → IsOutside span.at (n / 512) s
    outside s out = let m : n / 512 ≡ span.count = omega (arith, size) in let Q : ℕ → Type 0 = λ k. IsOutside span.at k s in subst Q (sym m) out

    unknown : (t : Bool) (s : ℕ) → IfSome (left_by_fault false t (Some (sector old.bytes s))) (λ v. Some (sector new.bytes s) ≡ Some v)
    unknown true s = tt
    unknown false s = tt

-- a write that failed
pub spoil_agrees : (span : Span) (n : ℕ) (old new : Contents) (sectors : ℕ) → n ≡ 512 * span.count → 1 ≤ span.count → span.at + span.count ≤ sectors
    → HasShape sectors old → MaySpoil span.at n old new → Agrees (sectors_of new) (spoils span (sectors_of old))
spoil_agrees span n old new sectors size some end shape may = at (is_some old.settled) refl
  where
    at : (t : Bool) → is_some old.settled ≡ t → Agrees (sectors_of new) (spoils span (sectors_of old))
    at true told = agrees_same (sectors_of new) (spoils span (sectors_of old)) (spoil_same span n old new sectors size some end shape told may)
    at false untold = lose_agrees span n old new size untold
        (may_spoil_touch span.at n old new sectors (is_range span.at n span.count sectors size some end) may)

-- the same of a store whose writes last
untold_none : (x : Option (List ℕ)) → x ≡ None → is_some x ≡ false
untold_none None e = refl
untold_none (Some x) e = cc

pub lasting_agrees : (span : Span) (piece : List ℕ) (old new : Contents) (sectors : ℕ) → length piece ≡ 512 * span.count
    → span.at + span.count ≤ sectors
    → HasShape sectors old → PutsToLast span.at piece old new → Agrees (sectors_of new) (puts span piece (sectors_of old))
lasting_agrees span piece old new sectors size end shape put =
    let m : length piece / 512 ≡ span.count = omega (arith, size) in
    record {
      known = λ s. known_same (Some (sector new.bytes s)) ((puts span piece (sectors_of old)).known s)
          (put_known span piece old new sectors size end shape put.bytes put.touches s);
      marks = λ s. by_span span s (λ t. (t || is_loose old.loose s) ≡ false → is_loose new.loose s ≡ false)
          (λ low high e. absurd (no_truth e))
          (λ out e. let Q : ℕ → Type 0 = λ k. IsOutside span.at k s in put.touches.kept s (subst Q (sym m) out) e);
      exact = λ e. absurd (no_truth (sym e ∙ untold_none old.settled put.untold.before));
    }

pub lost_agrees : (span : Span) (n : ℕ) (old new : Contents) → n ≡ 512 * span.count → MayLose span.at n old new
    → Agrees (sectors_of new) (spoils span (sectors_of old))
lost_agrees span n old new size lost = lose_agrees span n old new size (untold_none old.settled lost.untold.before) lost.touches

settled_same : (x y : Option (List ℕ)) (now : List ℕ) → BothTell (λ _ settled. settled ≡ now) x y → is_some x ≡ true → (s : ℕ)
    → option_map (λ bytes. sector bytes s) y ≡ Some (sector now s)
settled_same None None now told e s = absurd (no_truth (sym e))
settled_same None (Some y) now told e s = absurd told
settled_same (Some x) None now told e s = absurd told
settled_same (Some x) (Some y) now told e s = ap (λ (l : List ℕ). Some (sector l s)) told

settled_told : (x y : Option (List ℕ)) (now : List ℕ) → BothTell (λ _ settled. settled ≡ now) x y → is_some y ≡ is_some x
settled_told None None now told = refl
settled_told None (Some y) now told = absurd told
settled_told (Some x) None now told = absurd told
settled_told (Some x) (Some y) now told = refl

-- a sync that is done
pub settle_agrees : (old new : Contents) → Settles old new → Agrees (sectors_of new) (settles (sectors_of old))
settle_agrees old new e =
    let bytes : (s : ℕ) → Some (sector new.bytes s) ≡ Some (sector old.bytes s) = λ s. ap (λ (l : List ℕ). Some (sector l s)) e.bytes in
    record {
      known = λ s. bytes s;
      marks = λ s _. settles_kept old new e s;
      exact = λ told. record {
        known = bytes;
        marks = λ s. settles_kept old new e s;
        settled = λ s. settled_same old.settled new.settled old.bytes e.settled told s;
        exact = settled_told old.settled new.settled old.bytes e.settled;
      };
    }

-- a sync that failed
pub may_settle_agrees : (old new : Contents) → MaySettle old new → Agrees (sectors_of new) (sectors_of old)
may_settle_agrees old new e =
    let bytes : (s : ℕ) → Some (sector new.bytes s) ≡ Some (sector old.bytes s) = λ s. ap (λ (l : List ℕ). Some (sector l s)) e.bytes in
    record {
      known = λ s. bytes s;
      marks = e.fewer;
      exact = λ told. record {
        known = bytes;
        marks = λ s. ap (λ (l : List Bool). is_loose l s) (e.exact told);
        settled = λ s. ap (λ (o : Option (List ℕ)). option_map (λ bytes. sector bytes s) o) e.settled;
        exact = ap is_some e.settled;
      };
    }

-- what a call leaves of contents, told or not
pub both_agree : (g : Sectors → Sectors) (R : Contents → Contents → Type 0) (sectors : ℕ) (old new : Option Contents) → IfSome old (HasShape sectors)
    → BothTell R old new
    → ((x y : Contents) → HasShape sectors x → R x y → Agrees (sectors_of y) (g (sectors_of x)))
    → BothTell Agrees (option_map sectors_of new) (option_map g (option_map sectors_of old))
both_agree g R sectors None None shape told each = tt
both_agree g R sectors None (Some y) shape told each = absurd told
both_agree g R sectors (Some x) None shape told each = absurd told
both_agree g R sectors (Some x) (Some y) shape told each = each x y shape told
