-- Writes of both sides.
use Rattle.std.proofs.Common.{◌≡◌, ◌≤◌, ◌<◌, ◌+◌, ◌-◌, ◌*◌, ◌/◌, ◌⊎◌, ℕ, Bool, true, false, None, List, length, Result, Ok, Err, is_err, refl, sym, ap, ◌∙◌, subst, inl, inr, arith}
use Rattle.std.proofs.lemmas.Bool.{OnTrue_at, both_ways}
use Rattle.aoe_base.specs.Faults.{Rose}
use Rattle.aoe_base.proofs.CommonLemmas.{rose-later}
use Rattle.aoe_disk.specs.State.{Contents, DiskState, HasShape, BothTell, is_loose, sector, with_marks}
use Rattle.aoe_disk.specs.Calls.{IsRange, Puts, Spoils, Writes, WritesTo}
use Rattle.aoe_disk.proofs.Pieces.{with_piece_outside}
use Rattle.aoe_store.specs.Store.{MaySpoil, Stores}
use Rattle.aoe_store.proofs.Spoiling.{spoils_may_spoil}
use Rattle.aoe_mirror.specs.Marks.{count_of, with_each}
use Rattle.aoe_mirror.specs.Sides.{Agree, IsMirror, Pair, both, seen, shown, turned}
use Rattle.aoe_mirror.specs.Calls.{Answer, FollowerFailed, LeadFailed, MarkFailed, MarksWrite, MirrorWrites, NewFollowerFailed, SettlesLead, Swaps, Later}
use Rattle.aoe_mirror.proofs.Bits.{length-with_each, with_each_inside, with_each_outside}
use Rattle.aoe_mirror.proofs.Told.{told_both, told_if, told_map, told_mono, told_same, told_with}
use Rattle.aoe_mirror.proofs.Whole.{Beside, Fit, agree_written, beside_refl, cases_range, loose_written, puts_beside, same_marks_each, same_piece, seen_shape, spoils_beside}
use Rattle.aoe_mirror.proofs.Steps.{Holds, counts_moved, counts_same, counts_then, settled_counts, shown_if, turned_mirror, turned_shown, follower_same, holds_of, lead_moved, lead_same, newly_moved, newly_same, rose_part, settled_faults, settled_mirror, settled_sectors, settled_shown, settled_side, settled_stale, stored}

-- a write by its answer

pub put_by : (at : ℕ) (piece : List ℕ) (r : Answer) (a b : Contents) → is_err r ≡ false → Writes at piece r a b → Puts at piece a b
put_by at piece (Ok v) a b ok w = w
put_by at piece (Err e) a b ok w = cc

pub spoilt_by : (at : ℕ) (piece : List ℕ) (r : Answer) (a b : Contents) → is_err r ≡ true → Writes at piece r a b → Spoils at (length piece) a b
spoilt_by at piece (Ok v) a b bad w = cc
spoilt_by at piece (Err e) a b bad w = w

pub beside_by : (at : ℕ) (piece : List ℕ) (r : Answer) (a b : Contents) (sectors : ℕ) → HasShape sectors a → IsRange at (length piece) sectors
    → Writes at piece r a b → Beside at (length piece / 512) a b
beside_by at piece (Ok v) a b sectors shape range w = puts_beside at piece a b sectors shape range w
beside_by at piece (Err e) a b sectors shape range w = spoils_beside at (length piece) a b sectors shape range w

-- an answer of the mirror

stores_put : {T E : Type 0} (at : ℕ) (piece : List ℕ) (result : Result T E) (a b : Contents) → is_err result ≡ false → Puts at piece a b
    → Stores at piece result a b
stores_put at piece (Ok v) a b ok p = p
stores_put at piece (Err e) a b ok p = cc

stores_spoilt : {T E : Type 0} (at : ℕ) (piece : List ℕ) (result : Result T E) (a b : Contents) → is_err result ≡ true → MaySpoil at (length piece) a b
    → Stores at piece result a b
stores_spoilt at piece (Ok v) a b bad p = cc
stores_spoilt at piece (Err e) a b bad p = p

-- a put piece is a spoilt one, where the bytes of the last sync aren't told
puts_spoil : (at : ℕ) (piece : List ℕ) (a b : Contents) (sectors : ℕ) → HasShape sectors a → IsRange at (length piece) sectors → a.settled ≡ None
    → Puts at piece a b → Spoils at (length piece) a b
puts_spoil at piece a b sectors shape range none p = record {
  bytes = rw p.bytes (with_piece_outside a.bytes (512 * at) piece (omega (arith, shape.bytes, range.whole, range.within)) (length piece) (omega arith));
  loose = p.loose;
  settled = p.settled;
  exact = λ some. let e : false ≡ true = rw none at some in cc;
}

module _ (at : ℕ) (piece : List ℕ) (old : Pair) (m : IsMirror old) (range : IsRange at (length piece) old.lead.sectors) where
  fits : at + length piece / 512 ≤ length old.stale
  fits = omega (arith, m.marks, range.within)

  -- what stands on the follower within the range, where it isn't stale then
  inside_by : (r : Answer) (p q : Contents × Contents) → Fit old.lead.sectors old.stale p → Puts at piece p.0 q.0 → Writes at piece r p.1 q.1
      → (s : ℕ) → at ≤ s → s < at + length piece / 512 → is_loose (with_each old.stale at (length piece / 512) (is_err r)) s ≡ false
      → sector q.1.bytes s ≡ sector q.0.bytes s
  inside_by (Ok v) p q fit put w s low high off = same_piece at piece old.lead.sectors p.0 p.1 q.0 q.1 fit.lead fit.follower range put.bytes w.bytes s low high
  inside_by (Err e) p q fit put w s low high off = absurd (both_ways _ off (with_each_inside old.stale at (length piece / 512) true fits s low high))

  -- THE LEAD WAS WRITTEN

  module _ (lead : DiskState) (r : Answer) (ok : is_err r ≡ false) (w : WritesTo at piece r old.lead lead) (answer : Answer) (written : DiskState)
      (f : WritesTo at piece answer old.follower written) where
    abbrev through : Pair
    through = record {
      lead = lead;
      follower = written;
      mark = old.mark;
      side = old.side;
      stale = with_each old.stale at (length piece / 512) (is_err answer);
      settled = old.settled;
    }

    abbrev Through : Contents × Contents → Contents × Contents → Type 0
    Through p q = Puts at piece p.0 q.0 × Writes at piece answer p.1 q.1

    told : BothTell Through (both old.lead.contents old.follower.contents) (both lead.contents written.contents)
    told = told_both (Puts at piece) (Writes at piece answer) old.lead.contents lead.contents old.follower.contents written.contents
        (told_mono (Writes at piece r) (Puts at piece) old.lead.contents lead.contents w.contents (λ a b. put_by at piece r a b ok)) f.contents

    agree_through : (p q : Contents × Contents) → Holds old p → Through p q → Agree old.settled through.stale q
    agree_through p q h t = agree_written old.lead.sectors at (length piece / 512) old.stale through.stale p q h.0 range.within
        (puts_beside at piece p.0 q.0 old.lead.sectors h.0.lead range t.0) t.0.loose
        (beside_by at piece answer p.1 q.1 old.lead.sectors h.0.follower range t.1)
        (same_marks_each old.stale at (length piece / 512) (is_err answer) fits)
        old.settled h.1 (inside_by answer p q h.0 t.0 t.1)

    put_through : (p q : Contents × Contents) → Holds old p → Through p q → Puts at piece (seen old.stale p) (seen through.stale q)
    put_through p q h t = record {
      bytes = t.0.bytes;
      loose = loose_written old.lead.sectors at (length piece / 512) old.stale through.stale p q h.0 range.within
          (puts_beside at piece p.0 q.0 old.lead.sectors h.0.lead range t.0) t.0.loose
          (beside_by at piece answer p.1 q.1 old.lead.sectors h.0.follower range t.1)
          (same_marks_each old.stale at (length piece / 512) (is_err answer) fits);
      settled = refl;
    }

    pub through_mirror : IsMirror through
    through_mirror = record {
      lead = w.call.after;
      follower = f.call.after;
      size = f.call.sectors ∙ m.size ∙ sym w.call.sectors;
      mark = record { disk = m.mark.disk; room = m.mark.room; side = m.mark.side; named = m.mark.named };
      marks = length-with_each old.stale at (length piece / 512) (is_err answer) fits ∙ m.marks ∙ sym w.call.sectors;
      agree = told_if Through (Holds old) (Agree old.settled through.stale) (both old.lead.contents old.follower.contents)
          (both lead.contents written.contents) told (holds_of old m) agree_through;
    }

    pub through_puts : BothTell (Puts at piece) (shown old).contents (shown through).contents
    through_puts = told_map Through (Puts at piece) (Holds old) (seen old.stale) (seen through.stale) (both old.lead.contents old.follower.contents)
        (both lead.contents written.contents) told (holds_of old m) put_through

    follower_failed : is_err answer ≡ true → FollowerFailed old through
    follower_failed bad = follower_same old through m.mark.side refl (OnTrue_at bad f.call.cause)

    newly : (s : ℕ) → is_loose old.stale s ≡ false → is_loose through.stale s ≡ true → is_err answer ≡ true
    newly s was is = elim (cases_range at (length piece / 512) s) [
      | inl out ↦ absurd (both_ways _ (with_each_outside old.stale at (length piece / 512) (is_err answer) fits s out ∙ was) is)
      | inr within ↦ sym (with_each_inside old.stale at (length piece / 512) (is_err answer) fits s within.0 within.1) ∙ is
    ]

    marks_through : (b : Bool) → is_err answer ≡ b → MarksWrite at (length piece / 512) false old through
    marks_through true is = inr (inl (inr (follower_failed is), rw is refl))
    marks_through false is = inl (refl, rw is refl)

    pub through_writes : {T E : Type 0} (result : Result T E) → is_err result ≡ false → old.settled ≡ true → MirrorWrites at piece result old through
    through_writes result done settled = record {
      mirror = through_mirror;
      stores = stored old through m through_mirror w.call.sectors (omega (arith, w.call.later, f.call.later)) at piece result
          (told_mono (Puts at piece) (Stores at piece result) (shown old).contents (shown through).contents through_puts
          (λ a b p. stores_put at piece result a b done p))
          (λ bad. absurd (both_ways (is_err result) done bad));
      keeps = record {
        later = omega arith;
        stale = λ s was is. inl (newly_same old through m.mark.side refl (OnTrue_at (newly s was is) f.call.cause));
        lead = inl refl;
      };
      counts = counts_same old through refl w.call.later f.call.later (omega arith);
      marks = rw done (marks_through (is_err answer) refl);
      settled = λ _. settled;
      cause = λ bad. absurd (both_ways (is_err result) done bad);
    }

  -- THE LEAD FAILED

  module _ (lead : DiskState) (r : Answer) (bad : is_err r ≡ true) (w : WritesTo at piece r old.lead lead) where
    lead_rose : Rose old.lead.faults lead.faults
    lead_rose = OnTrue_at bad w.call.cause

    -- and the follower doesn't lead in its place

    module _ (after : DiskState) (why : ((0 < count_of old.stale) × (after ≡ old.follower))
        ⊎ ((answer : Answer) × (is_err answer ≡ true) × WritesTo at piece answer old.follower after)) where
      abbrev pub halted : Pair
      halted = record {
        lead = lead;
        follower = after;
        mark = old.mark;
        side = old.side;
        stale = with_marks old.stale at (length piece / 512);
        settled = old.settled;
      }

      after_later : Later old.follower after
      after_later = elim why [
        | inl idle ↦ rw idle.1 (record { disk = m.follower; sectors = refl; later = omega arith })
        | inr x ↦ record { disk = x.2.call.after; sectors = x.2.call.sectors; later = x.2.call.later }
      ]

      after_beside : BothTell (Beside at (length piece / 512)) old.follower.contents after.contents
      after_beside = elim why [
        | inl idle ↦ rw idle.1 (told_mono (λ (a b : Contents). b ≡ a) (Beside at (length piece / 512)) old.follower.contents old.follower.contents
            (told_same old.follower.contents) (λ a b e. rw e (beside_refl at (length piece / 512) a)))
        | inr x ↦ told_with (Writes at piece x.0) (Beside at (length piece / 512)) (HasShape old.lead.sectors) old.follower.contents after.contents x.2.contents
            (rw m.size at m.follower.shape) (λ a b shape t. beside_by at piece x.0 a b old.lead.sectors shape range t)
      ]

      abbrev Halted : Contents × Contents → Contents × Contents → Type 0
      Halted p q = Spoils at (length piece) p.0 q.0 × Beside at (length piece / 512) p.1 q.1

      told_halted : BothTell Halted (both old.lead.contents old.follower.contents) (both lead.contents after.contents)
      told_halted = told_both (Spoils at (length piece)) (Beside at (length piece / 512)) old.lead.contents lead.contents old.follower.contents after.contents
          (told_mono (Writes at piece r) (Spoils at (length piece)) old.lead.contents lead.contents w.contents (λ a b. spoilt_by at piece r a b bad))
          after_beside

      agree_halted : (p q : Contents × Contents) → Holds old p → Halted p q → Agree old.settled halted.stale q
      agree_halted p q h t = agree_written old.lead.sectors at (length piece / 512) old.stale halted.stale p q h.0 range.within
          (spoils_beside at (length piece) p.0 q.0 old.lead.sectors h.0.lead range t.0) t.0.loose t.1
          (same_marks_each old.stale at (length piece / 512) true fits)
          old.settled h.1 (λ s low high off. absurd (both_ways _ off (with_each_inside old.stale at (length piece / 512) true fits s low high)))

      spoil_halted : (p q : Contents × Contents) → Holds old p → Halted p q → MaySpoil at (length piece) (seen old.stale p) (seen halted.stale q)
      spoil_halted p q h t = spoils_may_spoil at (length piece) (seen old.stale p) (seen halted.stale q) old.lead.sectors
          (seen_shape old.lead.sectors old.stale p h.0) range (record {
            bytes = t.0.bytes;
            loose = loose_written old.lead.sectors at (length piece / 512) old.stale halted.stale p q h.0 range.within
                (spoils_beside at (length piece) p.0 q.0 old.lead.sectors h.0.lead range t.0) t.0.loose t.1
                (same_marks_each old.stale at (length piece / 512) true fits);
            settled = refl;
            exact = λ some. let e : false ≡ true = some in cc;
          })

      pub halted_mirror : IsMirror halted
      halted_mirror = record {
        lead = w.call.after;
        follower = after_later.disk;
        size = after_later.sectors ∙ m.size ∙ sym w.call.sectors;
        mark = record { disk = m.mark.disk; room = m.mark.room; side = m.mark.side; named = m.mark.named };
        marks = length-with_each old.stale at (length piece / 512) true fits ∙ m.marks ∙ sym w.call.sectors;
        agree = told_if Halted (Holds old) (Agree old.settled halted.stale) (both old.lead.contents old.follower.contents)
            (both lead.contents after.contents) told_halted (holds_of old m) agree_halted;
      }

      halted_spoils : BothTell (MaySpoil at (length piece)) (shown old).contents (shown halted).contents
      halted_spoils = told_map Halted (MaySpoil at (length piece)) (Holds old) (seen old.stale) (seen halted.stale)
          (both old.lead.contents old.follower.contents) (both lead.contents after.contents) told_halted (holds_of old m) spoil_halted

      lead_failed : LeadFailed old halted
      lead_failed = lead_same old halted refl lead_rose

      pub halted_writes : {T E : Type 0} (result : Result T E) → is_err result ≡ true → MirrorWrites at piece result old halted
      halted_writes result failed = record {
        mirror = halted_mirror;
        stores = stored old halted m halted_mirror w.call.sectors (omega (arith, w.call.later, after_later.later)) at piece result
            (told_mono (MaySpoil at (length piece)) (Stores at piece result) (shown old).contents (shown halted).contents halted_spoils
            (λ a b p. stores_spoilt at piece result a b failed p))
            (λ _. rose_part old.lead.faults lead.faults (shown old).faults (shown halted).faults lead_rose (omega arith) (omega (arith, after_later.later)));
        keeps = record {
          later = omega arith;
          stale = λ s was is. elim why [
            | inl idle ↦ inr (lead_failed, idle.0)
            | inr x ↦ inl (newly_same old halted m.mark.side refl (OnTrue_at x.1 x.2.call.cause))
          ];
          lead = inl refl;
        };
        counts = counts_same old halted refl w.call.later after_later.later (omega arith);
        marks = inr (inl (inl lead_failed, refl));
        settled = λ ok. absurd (both_ways (is_err result) ok failed);
        cause = λ _. elim why [
          | inl idle ↦ inl (lead_failed, idle.0)
          | inr x ↦ inr (inl (lead_failed, follower_same old halted m.mark.side refl (OnTrue_at x.1 x.2.call.cause)))
        ];
      }

-- THE LEAD FAILED, AND THE FOLLOWER LEADS IN ITS PLACE

module _ (at : ℕ) (piece : List ℕ) (old : Pair) (m : IsMirror old) (range : IsRange at (length piece) old.lead.sectors) (lead : DiskState) (r : Answer)
    (bad : is_err r ≡ true) (w : WritesTo at piece r old.lead lead)
    (failed : Bool) (new : Pair) (s : Swaps at piece failed (record old { lead = lead }) new) where
  lead_fell : Rose old.lead.faults lead.faults
  lead_fell = OnTrue_at bad w.call.cause

  swap_mirror : IsMirror (turned old)
  swap_mirror = turned_mirror old m s.whole

  swap_range : IsRange at (length piece) old.follower.sectors
  swap_range = rw m.size range

  abbrev mid : Pair
  mid = through at piece (turned old) swap_mirror swap_range s.written s.answer s.done s.write r lead w

  mid_mirror : IsMirror mid
  mid_mirror = through_mirror at piece (turned old) swap_mirror swap_range s.written s.answer s.done s.write r lead w

  mid_puts : BothTell (Puts at piece) (shown (turned old)).contents (shown mid).contents
  mid_puts = through_puts at piece (turned old) swap_mirror swap_range s.written s.answer s.done s.write r lead w

  settles : SettlesLead failed mid new
  settles = rw bad s.settles

  new_mirror : IsMirror new
  new_mirror = settled_mirror failed mid new mid_mirror settles

  new_puts : BothTell (Puts at piece) (shown old).contents (shown new).contents
  new_puts = rw (settled_shown failed mid new settles) (rw (turned_shown old m s.whole) at mid_puts)

  stores_by : {T E : Type 0} (result : Result T E) (a b : Contents) → HasShape old.lead.sectors a × (a.settled ≡ None) → Puts at piece a b
      → Stores at piece result a b
  stores_by (Ok v) a b h p = p
  stores_by (Err e) a b h p = spoils_may_spoil at (length piece) a b old.lead.sectors h.0 range (puts_spoil at piece a b old.lead.sectors h.0 range h.1 p)

  moved : new.side ≡ 1 - old.side
  moved = settled_side failed mid new settles

  swap_lead_failed : LeadFailed old new
  swap_lead_failed = lead_moved old new m.mark.side moved (let e : new.follower ≡ lead = ap (λ (p : Pair). p.follower) settles.is in rw e lead_fell)

  swap_trails : NewFollowerFailed old new
  swap_trails = newly_moved old new m.mark.side moved (let e : new.follower ≡ lead = ap (λ (p : Pair). p.follower) settles.is in rw e lead_fell)

  pub swapped_writes : {T E : Type 0} (result : Result T E) → is_err result ≡ failed → MirrorWrites at piece result old new
  swapped_writes result is = record {
    mirror = new_mirror;
    stores = stored old new m new_mirror (settled_sectors failed mid new settles ∙ s.write.call.sectors ∙ m.size)
        (let f = settled_faults failed mid new settles in omega (arith, f, w.call.later, s.write.call.later, settles.mark.later)) at piece result
        (told_with (Puts at piece) (Stores at piece result) (λ (a : Contents). HasShape old.lead.sectors a × (a.settled ≡ None)) (shown old).contents
        (shown new).contents new_puts (shown_if old m) (stores_by result))
        (λ _. let f = settled_faults failed mid new settles in
        rose_part old.lead.faults lead.faults (shown old).faults (shown new).faults lead_fell (omega arith)
        (omega (arith, f, s.write.call.later, settles.mark.later)));
    keeps = record { later = settles.mark.later; stale = λ _ was now. inl swap_trails; lead = inr swap_lead_failed };
    counts = counts_moved old new m.mark.side moved
        (let e : new.follower.faults ≡ lead.faults = ap (λ (p : Pair). p.follower.faults) settles.is in let later = w.call.later in omega arith)
        (let e : new.lead.faults ≡ s.written.faults = ap (λ (p : Pair). p.lead.faults) settles.is in let later = s.write.call.later in omega arith)
        settles.mark.later;
    marks = inr (inl (inl swap_lead_failed, settled_stale failed mid new settles ∙ ap (λ b. with_each old.stale at (length piece / 512) b) bad));
    settled = λ ok. settles.settled (sym is ∙ ok);
    cause = λ e. inr (inr (settles.cause (sym is ∙ e)));
  }

-- A LEAD THAT WASN'T SETTLED

module _ {T E : Type 0} (at : ℕ) (piece : List ℕ) (result : Result T E) (old mid new : Pair) (m : IsMirror old) where
  same_by : (a b : Contents) → is_err result ≡ true → (a.settled ≡ None) → b ≡ a → Stores at piece result a b
  same_by a b bad none e = rw e (stores_spoilt at piece result a a bad (record {
    bytes = record { size = refl; before = refl; after = refl };
    loose = record { size = refl; before = refl; after = refl };
    kept = λ s off. (off, refl);
    settled = refl;
    exact = λ some. let no : false ≡ true = rw none at some in cc;
  }))

  pub unsettled_writes : is_err result ≡ true → SettlesLead true old mid → MirrorWrites at piece result old mid
  unsettled_writes bad s =
      let mirror = settled_mirror true old mid m s in
      let side = settled_side true old mid s in
      let faults = settled_faults true old mid s in
      record {
        mirror = mirror;
        stores = stored old mid m mirror (settled_sectors true old mid s) (omega (arith, faults, s.mark.later)) at piece result
            (rw (settled_shown true old mid s)
            (told_with (λ (a b : Contents). b ≡ a) (Stores at piece result) (λ (a : Contents). HasShape old.lead.sectors a × (a.settled ≡ None))
            (shown old).contents (shown old).contents (told_same (shown old).contents) (shown_if old m) (λ a b h e. same_by a b bad h.1 e)))
            (λ _. rose_part old.mark.faults mid.mark.faults (shown old).faults (shown mid).faults (s.cause refl) (omega arith) (omega (arith, faults)));
        keeps = record {
          later = s.mark.later;
          stale = λ k was is. let same = settled_stale true old mid s in
              absurd (both_ways (is_loose old.stale k) was (rw same at is));
          lead = inl side;
        };
        counts = settled_counts true old mid s;
        marks = inr (inr (bad, s.cause refl, settled_stale true old mid s));
        settled = λ ok. absurd (both_ways (is_err result) ok bad);
        cause = λ _. inr (inr (s.cause refl));
      }

  pub settled_writes : SettlesLead false old mid → MirrorWrites at piece result mid new → MirrorWrites at piece result old new
  settled_writes s writes =
      let side = settled_side false old mid s in
      let faults = settled_faults false old mid s in
      let w : MirrorWrites at piece result (record old { mark = mid.mark; settled = mid.settled }) new =
      subst (λ (p : Pair). MirrorWrites at piece result p new) s.is writes in
      let mark : MarkFailed mid new → MarkFailed old new = rose-later old.mark.faults mid.mark.faults new.mark.faults s.mark.later w.keeps.later in
      let later : (shown old).faults ≤ (shown new).faults = let c = w.stores.call.later in omega (arith, c, s.mark.later) in
      record {
        mirror = w.mirror;
        stores = stored old new m w.mirror w.stores.call.sectors later at piece result w.stores.contents
            (λ bad. rose-later (shown old).faults (old.lead.faults + old.follower.faults + mid.mark.faults) (shown new).faults
            (omega (arith, s.mark.later)) w.stores.call.later (OnTrue_at bad w.stores.call.cause));
        keeps = record { later = omega (arith, s.mark.later, w.keeps.later); stale = w.keeps.stale; lead = w.keeps.lead };
        counts = counts_then old mid new (settled_counts false old mid s) writes.counts;
        marks = elim w.marks [
          | inl a ↦ inl a
          | inr b ↦ elim b [
            | inl c ↦ inr (inl c)
            | inr d ↦ inr (inr (d.0, mark d.1, d.2))
          ]
        ];
        settled = w.settled;
        cause = λ bad. elim (w.cause bad) [
          | inl a ↦ inl a
          | inr b ↦ elim b [
            | inl c ↦ inr (inl c)
            | inr d ↦ inr (inr (mark d))
          ]
        ];
      }

pub unsettled_err : {T E : Type 0} (at : ℕ) (piece : List ℕ) (e : E) (old mid : Pair) (m : IsMirror old) → SettlesLead true old mid
    → MirrorWrites {T = T} {E = E} at piece (Err e) old mid
unsettled_err {T = T} {E = E} at piece e old mid m s = unsettled_writes {T = T} {E = E} at piece (Err e) old mid mid m refl s
