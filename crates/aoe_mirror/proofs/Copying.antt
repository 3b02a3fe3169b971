-- A run of stale sectors, copied from the lead to the follower.
use Rattle.std.proofs.Common.{◌≡◌, ◌≤◌, ◌<◌, ◌+◌, ◌-◌, ◌*◌, ◌/◌, ◌⊎◌, ℕ, Bool, true, false, Option, None, Some, IfSome, IfErr, MatchOption, is_some, List, length, take, drop, Result, Ok, Err, is_err, refl, sym, ap, ◌∙◌, subst, inl, inr, arith}
use Rattle.std.proofs.lemmas.Bool.{OnTrue_at, both_ways, cases_Bool}
use Rattle.aoe_base.specs.Faults.{Rose}
use Rattle.aoe_base.proofs.CommonLemmas.{rose-later}
use Rattle.aoe_disk.specs.State.{Contents, DiskState, HasShape, BothTell, is_loose, sector}
use Rattle.aoe_disk.specs.Calls.{IsRange, Puts, Settles, Syncs, SyncsTo, Writes, WritesTo}
use Rattle.aoe_disk.specs.Sectors.{Calms, IsOutside}
use Rattle.aoe_disk.proofs.Touching.{calm_refl, sector-read, sector-with_piece, settles_kept}
use Rattle.std.proofs.lemmas.List.{length-replicate}
use Rattle.aoe_mirror.specs.Marks.{AreSet, IsClear, IsFirstRun, IsNextRun, count_of, with_each}
use Rattle.aoe_mirror.specs.Sides.{Agree, IsMirror, Pair, both, seen, shown}
use Rattle.aoe_mirror.specs.Calls.{Answer, Blames, Copies, CopiesNext, CopiesRun, FollowerFailed, Later, LeadFailed, WritesCopy, copy_blamed}
use Rattle.aoe_mirror.proofs.Bits.{count_cleared, length-with_each, next_set, none_through, with_each_inside, with_each_outside}
use Rattle.aoe_mirror.proofs.Told.{and_if, both_if, if_any, told_both, told_if, told_map, told_mono, told_same, told_tells, told_then, told_with}
use Rattle.aoe_mirror.proofs.Whole.{Beside, Fit, beside_refl, cases_range, length-loose_of, loose_at, puts_beside, seen_at}
use Rattle.aoe_mirror.proofs.Quiet.{calm_by, in_from, parts_in, settled_by}
use Rattle.aoe_mirror.proofs.Steps.{Holds, counts_same, follower_same, holds_of, lead_same, rose_part, run_shown}
use Rattle.aoe_mirror.proofs.Reading.{ok_given}
use Rattle.aoe_mirror.proofs.Syncing.{blame_follower, blame_lead}
use Rattle.aoe_mirror.proofs.Writing.{beside_by, put_by}

-- the follower's sectors of a run were written, and it was synced or not; or it was written whole, and synced
abbrev Touched : ℕ → ℕ → Contents → Contents → Type 0
Touched at n a c = (b : Contents) × Beside at n a b × Calms b c

abbrev Put : ℕ → List ℕ → Contents → Contents → Type 0
Put at piece a c = (b : Contents) × Puts at piece a b × Settles b c

module _ (sectors at n : ℕ) (settled : Bool) (stale : List Bool) (run : AreSet stale at n) (p q : Contents × Contents) (fit : Fit sectors stale p)
    (agree : Agree settled stale p) (lead : q.0 ≡ p.0) where
  outside_run : (s : ℕ) → is_loose stale s ≡ false → IsOutside at n s
  outside_run s off = elim (cases_range at n s) [
    | inl out ↦ out
    | inr in_run ↦ absurd (both_ways _ off (run.set s in_run.0 in_run.1))
  ]

  sector_lead : (s : ℕ) → sector q.0.bytes s ≡ sector p.0.bytes s
  sector_lead s = ap (λ (c : Contents). sector c.bytes s) lead

  loose_lead : (s : ℕ) → is_loose q.0.loose s ≡ is_loose p.0.loose s
  loose_lead s = ap (λ (c : Contents). is_loose c.loose s) lead

  -- the run is stale still

  module _ (t : Touched at n p.1 q.1) where
    sector_touched : (s : ℕ) → IsOutside at n s → sector q.1.bytes s ≡ sector p.1.bytes s
    sector_touched s out = ap (λ (b : List ℕ). sector b s) t.2.bytes ∙ t.1.same s out

    pub agree_touched : Agree settled stale q
    agree_touched = record {
      same = λ s off. sector_touched s (outside_run s off) ∙ agree.same s off ∙ sym (sector_lead s);
      unsettled = λ isnt s on. loose_lead s ∙ agree.unsettled isnt s on;
    }

    touched_size : length q.1.loose ≡ length stale
    touched_size = t.2.marks ∙ t.1.marks.size ∙ fit.follower.marks ∙ sym fit.marks

    lead_size : length q.0.loose ≡ length stale
    lead_size = ap (λ (c : Contents). length c.loose) lead ∙ fit.lead.marks ∙ sym fit.marks

    pub seen_touched : Calms (seen stale p) (seen stale q)
    seen_touched = record {
      bytes = ap (λ (c : Contents). c.bytes) lead;
      marks = length-loose_of stale q.0.loose q.1.loose ∙ sym (length-loose_of stale p.0.loose p.1.loose);
      kept = λ s off.
          let was = parts_in (is_loose p.0.loose s) (is_loose p.1.loose s) (is_loose stale s) (sym (seen_at sectors stale p s fit) ∙ off) in
          loose_at stale q.0.loose q.1.loose s lead_size touched_size
          ∙ in_from (is_loose q.0.loose s) (is_loose q.1.loose s) (is_loose stale s) (loose_lead s ∙ was.0) (elim (cases_Bool (is_loose stale s)) [
            | inl on ↦ inr on
            | inr isnt ↦ elim was.1 [
              | inl quiet ↦ inl (t.2.kept s (t.1.marks.same s (outside_run s isnt) ∙ quiet))
              | inr on ↦ inr on
            ]
          ]);
    }

  -- the run is stale no more

  module _ (piece : List ℕ) (whole : length piece ≡ 512 * n) (read : piece ≡ take (512 * n) (drop (512 * at) p.0.bytes)) (put : Put at piece p.1 q.1) where
    abbrev rest : List Bool
    rest = with_each stale at n false

    rest_size : length rest ≡ length stale
    rest_size = length-with_each stale at n false run.within

    count_is : length piece / 512 ≡ n
    count_is = omega (arith, whole)

    range : IsRange at (length piece) sectors
    range = record { some = omega (arith, run.some, whole); whole = omega (arith, whole); within = omega (arith, whole, run.within, fit.marks) }

    beside : Beside at n p.1 put.0
    beside = rw count_is at (puts_beside at piece p.1 put.0 sectors fit.follower range put.1)

    in_run_same : (s : ℕ) → at ≤ s → s < at + n → sector q.1.bytes s ≡ sector p.0.bytes s
    in_run_same s low high =
        let k : ℕ = s - at in
        let here : at + k ≡ s = omega arith in
        let there = sector-with_piece p.1.bytes piece at k (omega (arith, whole, run.within, fit.marks, fit.follower.bytes)) (omega (arith, whole)) in
        let given = sector-read p.0.bytes at (512 * n) k (omega arith) in
        ap (λ (b : List ℕ). sector b s) (put.2.bytes ∙ put.1.bytes) ∙ rw here at (there ∙ ap (λ (b : List ℕ). sector b k) read ∙ given)

    was_off : (s : ℕ) → is_loose rest s ≡ false → IsOutside at n s → is_loose stale s ≡ false
    was_off s off out = sym (with_each_outside stale at n false run.within s out) ∙ off

    was_on : (s : ℕ) → is_loose rest s ≡ true → is_loose stale s ≡ true
    was_on s on = elim (cases_range at n s) [
      | inl out ↦ sym (with_each_outside stale at n false run.within s out) ∙ on
      | inr in_run ↦ absurd (both_ways _ (with_each_inside stale at n false run.within s in_run.0 in_run.1) on)
    ]

    pub agree_put : Agree settled rest q
    agree_put = record {
      same = λ s off. elim (cases_range at n s) [
        | inl out ↦ ap (λ (b : List ℕ). sector b s) put.2.bytes ∙ beside.same s out ∙ agree.same s (was_off s off out) ∙ sym (sector_lead s)
        | inr in_run ↦ in_run_same s in_run.0 in_run.1 ∙ sym (sector_lead s)
      ];
      unsettled = λ isnt s on. loose_lead s ∙ agree.unsettled isnt s (was_on s on);
    }

    put_lead_size : length q.0.loose ≡ length rest
    put_lead_size = ap (λ (c : Contents). length c.loose) lead ∙ fit.lead.marks ∙ sym (rest_size ∙ fit.marks)

    put_follower_size : length q.1.loose ≡ length rest
    put_follower_size = ap length put.2.loose ∙ length-replicate (length put.0.loose) false ∙ beside.marks.size ∙ fit.follower.marks
        ∙ sym (rest_size ∙ fit.marks)

    pub seen_put : Calms (seen stale p) (seen rest q)
    seen_put = record {
      bytes = ap (λ (c : Contents). c.bytes) lead;
      marks = length-loose_of rest q.0.loose q.1.loose ∙ rest_size ∙ sym (length-loose_of stale p.0.loose p.1.loose);
      kept = λ s off.
          let was = parts_in (is_loose p.0.loose s) (is_loose p.1.loose s) (is_loose stale s) (sym (seen_at sectors stale p s fit) ∙ off) in
          loose_at rest q.0.loose q.1.loose s put_lead_size put_follower_size
          ∙ in_from (is_loose q.0.loose s) (is_loose q.1.loose s) (is_loose rest s) (loose_lead s ∙ was.0) (inl (settles_kept put.0 q.1 put.2 s));
    }

-- THE DISKS

module _ (old : Pair) (m : IsMirror old) (at n : ℕ) (run : AreSet old.stale at n) (lead follower : DiskState) (l : Later old.lead lead)
    (same : lead.contents ≡ old.lead.contents) (f : Later old.follower follower) where
  told_lead : BothTell (λ (a b : Contents). b ≡ a) old.lead.contents lead.contents
  told_lead = rw same (told_same old.lead.contents)

  module _ (stale : List Bool) (size : length stale ≡ length old.stale) where
    abbrev copied : Pair
    copied = record { lead = lead; follower = follower; mark = old.mark; side = old.side; stale = stale; settled = old.settled }

    copied_mirror : IfSome (both lead.contents follower.contents) (Agree old.settled stale) → IsMirror copied
    copied_mirror agree = record {
      lead = l.disk;
      follower = f.disk;
      size = f.sectors ∙ m.size ∙ sym l.sectors;
      mark = record { disk = m.mark.disk; room = m.mark.room; side = m.mark.side; named = m.mark.named };
      marks = size ∙ m.marks ∙ sym l.sectors;
      agree = agree;
    }

    copies_by : (failed : Bool) → IfSome (both lead.contents follower.contents) (Agree old.settled stale)
        → BothTell Calms (shown old).contents (shown copied).contents
        → (failed ≡ true → (stale ≡ old.stale) × (Rose (shown old).faults (shown copied).faults × (LeadFailed old copied ⊎ FollowerFailed old copied)))
        → (failed ≡ false → stale ≡ with_each old.stale at n false) → Copies at n failed old copied
    copies_by failed agree calm why done = record {
      mirror = copied_mirror agree;
      run = run_shown old copied m (copied_mirror agree) l.sectors (omega (arith, l.later, f.later)) failed
          (told_tells Calms (shown old).contents (shown copied).contents calm) (λ e. (why e).1.0);
      calm = calm;
      side = refl;
      mark = refl;
      counts = counts_same old copied refl l.later f.later (omega arith);
      settled = refl;
      done = done;
      stays = λ e. (why e).0;
      cause = λ e. (why e).1.1;
    }

  -- the run is stale still

  touched_copies : BothTell (Touched at n) old.follower.contents follower.contents
      → Rose (shown old).faults (shown (copied old.stale refl)).faults × (LeadFailed old (copied old.stale refl) ⊎ FollowerFailed old (copied old.stale refl))
      → Copies at n true old (copied old.stale refl)
  touched_copies told why =
      let pairs = told_both (λ (a b : Contents). b ≡ a) (Touched at n) old.lead.contents lead.contents old.follower.contents follower.contents told_lead told in
      copies_by old.stale refl true
      (told_if (λ (p q : Contents × Contents). (q.0 ≡ p.0) × Touched at n p.1 q.1) (Holds old) (Agree old.settled old.stale)
      (both old.lead.contents old.follower.contents) (both lead.contents follower.contents) pairs (holds_of old m)
      (λ p q h t. agree_touched old.lead.sectors at n old.settled old.stale run p q h.0 h.1 t.0 t.1))
      (told_map (λ (p q : Contents × Contents). (q.0 ≡ p.0) × Touched at n p.1 q.1) Calms (Holds old) (seen old.stale) (seen old.stale)
      (both old.lead.contents old.follower.contents) (both lead.contents follower.contents) pairs (holds_of old m)
      (λ p q h t. seen_touched old.lead.sectors at n old.settled old.stale run p q h.0 h.1 t.0 t.1))
      (λ _. (refl, why)) (λ e. cc)

  -- the run is stale no more

  put_copies : (piece : List ℕ) → length piece ≡ 512 * n → IfSome old.lead.contents (λ (c : Contents). piece ≡ take (512 * n) (drop (512 * at) c.bytes))
      → BothTell (Put at piece) old.follower.contents follower.contents
      → Copies at n false old (copied (with_each old.stale at n false) (length-with_each old.stale at n false run.within))
  put_copies piece whole given told =
      let pairs = told_both (λ (a b : Contents). b ≡ a) (Put at piece) old.lead.contents lead.contents old.follower.contents follower.contents told_lead told in
      let H : Contents × Contents → Type 0 = λ p. Holds old p × ((piece ≡ take (512 * n) (drop (512 * at) p.0.bytes)) × Unit {0}) in
      let holds : IfSome (both old.lead.contents old.follower.contents) H = and_if (Holds old)
      (λ (p : Contents × Contents). (piece ≡ take (512 * n) (drop (512 * at) p.0.bytes)) × Unit {0}) (both old.lead.contents old.follower.contents)
      (holds_of old m)
      (both_if (λ (c : Contents). piece ≡ take (512 * n) (drop (512 * at) c.bytes)) (λ _. Unit {0}) old.lead.contents old.follower.contents given
      (if_any old.follower.contents)) in
      copies_by (with_each old.stale at n false) (length-with_each old.stale at n false run.within) false
      (told_if (λ (p q : Contents × Contents). (q.0 ≡ p.0) × Put at piece p.1 q.1) H (Agree old.settled (with_each old.stale at n false))
      (both old.lead.contents old.follower.contents) (both lead.contents follower.contents) pairs holds
      (λ p q h t. agree_put old.lead.sectors at n old.settled old.stale run p q h.0.0 h.0.1 t.0 piece whole h.1.0 t.1))
      (told_map (λ (p q : Contents × Contents). (q.0 ≡ p.0) × Put at piece p.1 q.1) Calms H (seen old.stale) (seen (with_each old.stale at n false))
      (both old.lead.contents old.follower.contents) (both lead.contents follower.contents) pairs holds
      (λ p q h t. seen_put old.lead.sectors at n old.settled old.stale run p q h.0.0 h.0.1 t.0 piece whole h.1.0 t.1))
      (λ e. cc) (λ _. refl)

-- THE CALLS

module _ {T : Type 0} (old : Pair) (m : IsMirror old) (at n : ℕ) (run : AreSet old.stale at n) (result : Result T ℕ) (mid : Pair)
    (c : CopiesRun at (512 * n) result old mid) where
  lead_later : Later old.lead c.looked
  lead_later = record { disk = c.read.call.after; sectors = c.read.call.sectors; later = c.read.call.later }

  count : length c.piece / 512 ≡ n
  count = omega (arith, c.size)

  piece_range : IsRange at (length c.piece) old.lead.sectors
  piece_range = record { some = omega (arith, run.some, c.size); whole = omega (arith, c.size); within = omega (arith, c.size, run.within, m.marks) }

  beside_written : (r : Answer) (written : DiskState) → WritesTo at c.piece r old.follower written
      → BothTell (Beside at n) old.follower.contents written.contents
  beside_written r written w = told_with (Writes at c.piece r) (Beside at n) (HasShape old.lead.sectors) old.follower.contents written.contents w.contents
      (rw m.size at m.follower.shape)
      (λ a b shape t. rw count at (beside_by at c.piece r a b old.lead.sectors shape piece_range t))

  -- the lead wasn't read

  lead_fell : is_err c.answer ≡ true → Rose old.lead.faults c.looked.faults
  lead_fell bad = OnTrue_at bad c.read.call.cause

  unread_copies : is_err c.answer ≡ true → Copies at n true old (record old { lead = c.looked })
  unread_copies bad = touched_copies old m at n run c.looked old.follower lead_later c.read.same
      (record { disk = m.follower; sectors = refl; later = omega arith })
      (told_mono (λ (x y : Contents). y ≡ x) (Touched at n) old.follower.contents old.follower.contents (told_same old.follower.contents)
      (λ x y e. rw e (x, beside_refl at n x, calm_refl x))) (
        rose_part old.lead.faults c.looked.faults (shown old).faults (shown (record old { lead = c.looked })).faults (lead_fell bad) (omega arith)
            (omega arith),
        inl (lead_same old (record old { lead = c.looked }) refl (lead_fell bad)),
      )

  -- the follower wasn't written, or not synced

  module _ (follower : DiskState) (f : Later old.follower follower) (told : BothTell (Touched at n) old.follower.contents follower.contents)
      (fell : Rose old.follower.faults follower.faults) where
    unwritten_failed : FollowerFailed old (record old { lead = c.looked; follower = follower })
    unwritten_failed = follower_same old (record old { lead = c.looked; follower = follower }) m.mark.side refl fell

    unwritten_copies : Copies at n true old (record old { lead = c.looked; follower = follower })
    unwritten_copies = touched_copies old m at n run c.looked follower lead_later c.read.same f told (
      rose_part old.follower.faults follower.faults (shown old).faults (shown (record old { lead = c.looked; follower = follower })).faults fell
          (omega arith) (omega (arith, lead_later.later)),
      inr unwritten_failed,
    )

  synced_later : (w : WritesCopy at c.piece result (record old { lead = c.looked }) mid) (reply : Answer) → SyncsTo reply w.written mid.follower
      → Later old.follower mid.follower
  synced_later w reply s = record {
    disk = s.call.after;
    sectors = s.call.sectors ∙ w.write.call.sectors;
    later = omega (arith, s.call.later, w.write.call.later);
  }

  synced_touched : (w : WritesCopy at c.piece result (record old { lead = c.looked }) mid) (reply : Answer) → SyncsTo reply w.written mid.follower
      → BothTell (Touched at n) old.follower.contents mid.follower.contents
  synced_touched w reply s = told_then (Beside at n) (Syncs reply) (Touched at n) old.follower.contents w.written.contents mid.follower.contents
      (beside_written w.answer w.written w.write) s.contents (λ x y z t u. (y, t, calm_by reply y z u))

  synced_fell : (w : WritesCopy at c.piece result (record old { lead = c.looked }) mid) (reply : Answer) → SyncsTo reply w.written mid.follower
      → is_err reply ≡ true → Rose old.follower.faults mid.follower.faults
  synced_fell w reply s bad = rose-later old.follower.faults w.written.faults mid.follower.faults w.write.call.later s.call.later (OnTrue_at bad s.call.cause)

  write_touched : (w : WritesCopy at c.piece result (record old { lead = c.looked }) mid) → BothTell (Touched at n) old.follower.contents w.written.contents
  write_touched w = told_mono (Beside at n) (Touched at n) old.follower.contents w.written.contents (beside_written w.answer w.written w.write)
      (λ x y t. (y, t, calm_refl y))

  write_later : (w : WritesCopy at c.piece result (record old { lead = c.looked }) mid) → Later old.follower w.written
  write_later w = record { disk = w.write.call.after; sectors = w.write.call.sectors; later = w.write.call.later }

  pub failed_copies : is_err result ≡ true → Copies at n true old mid
  failed_copies failed = elim c.rest [
    | inl x ↦ subst (Copies at n true old) (sym x.3) (unread_copies x.0)
    | inr y ↦ let w = y.1 in elim w.rest [
      | inl x ↦ subst (Copies at n true old) (sym x.2) (unwritten_copies w.written (write_later w) (write_touched w) (OnTrue_at x.0 w.write.call.cause))
      | inr z ↦ subst (Copies at n true old) (sym z.4)
          (unwritten_copies mid.follower (synced_later w z.1 z.3) (synced_touched w z.1 z.3) (synced_fell w z.1 z.3 (sym z.2 ∙ failed)))
    ]
  ]

  err_blames : (q : Result T ℕ) (j : ℕ) → is_err q ≡ true → IfErr q (λ k. k ≡ j) → Blames (Some j) old mid → IfErr q (λ k. Blames (Some k) old mid)
  err_blames (Ok v) j e is b = tt
  err_blames (Err k) j e is b = subst (λ (i : ℕ). Blames (Some i) old mid) (sym is) b

  ok_blames : (q : Result T ℕ) → is_err q ≡ false → IfErr q (λ k. Blames (Some k) old mid)
  ok_blames (Ok v) e = tt
  ok_blames (Err k) e = cc

  pub copy_blames : IfErr result (λ k. Blames (Some k) old mid)
  copy_blames = elim (cases_Bool (is_err result)) [
    | inl failed ↦ elim c.rest [
      | inl x ↦ err_blames result old.side failed x.2
          (blame_lead old mid old.side m.mark.side refl
          (subst (LeadFailed old) (sym x.3) (lead_same old (record old { lead = c.looked }) refl (lead_fell x.0))))
      | inr y ↦ let w = y.1 in err_blames result (1 - old.side) failed w.blamed (blame_follower old mid (1 - old.side) m.mark.side refl (elim w.rest [
        | inl x ↦ subst (FollowerFailed old) (sym x.2) (unwritten_failed w.written (write_later w) (write_touched w) (OnTrue_at x.0 w.write.call.cause))
        | inr z ↦ subst (FollowerFailed old) (sym z.4)
            (unwritten_failed mid.follower (synced_later w z.1 z.3) (synced_touched w z.1 z.3) (synced_fell w z.1 z.3 (sym z.2 ∙ failed)))
      ]))
    ]
    | inr ok ↦ ok_blames result ok
  ]

  put_told : (w : WritesCopy at c.piece result (record old { lead = c.looked }) mid) (reply : Answer) → is_err w.answer ≡ false → is_err reply ≡ false
      → SyncsTo reply w.written mid.follower → BothTell (Put at c.piece) old.follower.contents mid.follower.contents
  put_told w reply ok done s = told_then (Writes at c.piece w.answer) (Syncs reply)
      (Put at c.piece) old.follower.contents w.written.contents mid.follower.contents w.write.contents s.contents
      (λ x y z t u. (y, put_by at c.piece w.answer x y ok t, settled_by reply y z done u))

  pub done_copies : is_err result ≡ false → Copies at n false old (record mid { stale = with_each mid.stale at n false })
  done_copies done = elim c.rest [
    | inl x ↦ absurd (both_ways (is_err result) done x.1)
    | inr y ↦ let w = y.1 in elim w.rest [
      | inl x ↦ absurd (both_ways (is_err result) done x.1)
      | inr z ↦ subst (λ (p : Pair). Copies at n false old (record p { stale = with_each p.stale at n false })) (sym z.4)
          (put_copies old m at n run c.looked mid.follower lead_later c.read.same (synced_later w z.1 z.3) c.piece c.size (ok_given c.answer y.0 c.read.given)
          (put_told w z.1 z.0 (sym z.2 ∙ done) z.3))
    ]
  ]

-- fewer sectors are stale after a copy, where any were
pub copied_fewer : (from next : ℕ) (old new : Pair) → CopiesNext from next false old new → 0 < count_of old.stale → count_of new.stale < count_of old.stale
copied_fewer from next old new (inl none) some = absurd (omega (arith, none.0, some))
copied_fewer from next old new (inr x) some =
    let run = next_set old.stale from x.0 x.1 x.2 in
    let fewer = count_cleared old.stale x.0 x.1 run.some (run.set x.0 (omega arith) (omega (arith, run.some))) in
    omega (arith, ap count_of (x.4.done refl), fewer)

-- the side that a copy tells
pub copied_blames : {T : Type 0} (q : Result T ℕ) (mid new : Pair) → IfErr q (λ k. Blames (Some k) mid new) → Blames (copy_blamed q) mid new
copied_blames (Ok v) mid new h = tt
copied_blames (Err k) mid new h = h

pub copied_is : {T : Type 0} (q : Result T ℕ) → is_some (copy_blamed q) ≡ is_err q
copied_is (Ok v) = refl
copied_is (Err k) = refl

pub next_mirror : (from next : ℕ) (failed : Bool) (old new : Pair) → IsMirror old → CopiesNext from next failed old new → IsMirror new
next_mirror from next failed old new m (inl none) = rw none.2 m
next_mirror from next failed old new m (inr x) = x.4.mirror

pub next_found : (marks : List Bool) (from : ℕ) (r : Option (ℕ × ℕ)) → IsClear marks from (length marks)
    → MatchOption r (IsClear marks 0 (length marks)) (λ (run : ℕ × ℕ). IsFirstRun marks 0 run.0 run.1)
    → MatchOption r (count_of marks ≡ 0) (λ (run : ℕ × ℕ). IsNextRun marks from run.0 run.1)
next_found marks from None clear h = none_through marks h
next_found marks from (Some run) clear h = inr (clear, h)
