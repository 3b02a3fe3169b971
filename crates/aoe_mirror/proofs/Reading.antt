-- Reads of the lead, and of the follower in its place.
use Rattle.std.proofs.Common.{◌≡◌, ◌≤◌, ◌*◌, ◌/◌, ℕ, Bool, true, false, Option, Some, None, IfSome, is_some, option_map, List, take, drop, Result, Ok, Err, OnOk, is_err, refl, sym, ap, ◌∙◌, subst, inl, inr, arith}
use Rattle.std.proofs.lemmas.Bool.{OnTrue_at, both_ways}
use Rattle.aoe_base.specs.Faults.{Rose}
use Rattle.aoe_disk.specs.State.{Contents, DiskState, IsDisk, is_loose}
use Rattle.aoe_disk.specs.Calls.{IsRange, Reads}
use Rattle.aoe_disk.proofs.Touching.{range_same}
use Rattle.aoe_mirror.specs.Marks.{IsClear}
use Rattle.aoe_mirror.specs.Sides.{Agree, IsMirror, Pair, both, seen, shown}
use Rattle.aoe_mirror.specs.Calls.{Answer, FollowerReads, MirrorReads, ReadCause}
use Rattle.aoe_mirror.proofs.Steps.{Holds, counts_same, follower_same, holds_of, lead_same, rose_part, run_shown}

-- a disk that was read, or wasn't called
pub record Looked (old new : DiskState) : Type 0 where
  pub disk : IsDisk new
  pub sectors : new.sectors ≡ old.sectors
  pub same : new.contents ≡ old.contents
  pub later : old.faults ≤ new.faults

looked : {T E : Type 0} (at n : ℕ) (r : Result T E) (out : List ℕ) (a b : DiskState) → Reads at n r out a b → Looked a b
looked at n r out a b reads = record { disk = reads.call.after; sectors = reads.call.sectors; same = reads.same; later = reads.call.later }

-- what an Ok read gives
abbrev Gave : ℕ → ℕ → List ℕ → Contents → Type 0
Gave at n out c = out ≡ take n (drop (512 * at) c.bytes)

pub ok_given : {T E : Type 0} {P : Type 0} (r : Result T E) → is_err r ≡ false → OnOk r P → P
ok_given (Ok v) ok h = h
ok_given (Err e) ok h = cc

given_for : {T E : Type 0} {P : Type 0} (r : Result T E) → (is_err r ≡ false → P) → OnOk r P
given_for (Ok v) h = h refl
given_for (Err e) h = tt

from_lead : (P : Contents → Type 0) (Q : Contents → Type 0) (stale : List Bool) (H : Contents × Contents → Type 0) (x y : Option Contents) → IfSome x P
    → IfSome (both x y) H → ((p : Contents × Contents) → H p → P p.0 → Q (seen stale p)) → IfSome (option_map (seen stale) (both x y)) Q
from_lead P Q stale H None None p h k = tt
from_lead P Q stale H None (Some b) p h k = tt
from_lead P Q stale H (Some a) None p h k = tt
from_lead P Q stale H (Some a) (Some b) p h k = k (a, b) h p

from_follower : (P : Contents → Type 0) (Q : Contents → Type 0) (stale : List Bool) (H : Contents × Contents → Type 0) (x y : Option Contents) → IfSome y P
    → IfSome (both x y) H → ((p : Contents × Contents) → H p → P p.1 → Q (seen stale p)) → IfSome (option_map (seen stale) (both x y)) Q
from_follower P Q stale H None None p h k = tt
from_follower P Q stale H None (Some b) p h k = tt
from_follower P Q stale H (Some a) None p h k = tt
from_follower P Q stale H (Some a) (Some b) p h k = k (a, b) h p

module _ (at n : ℕ) (out : List ℕ) (old : Pair) (m : IsMirror old) where
  module _ (lead follower : DiskState) (l : Looked old.lead lead) (f : Looked old.follower follower) where
    abbrev after : Pair
    after = record { lead = lead; follower = follower; mark = old.mark; side = old.side; stale = old.stale; settled = old.settled }

    after_mirror : IsMirror after
    after_mirror = record {
      lead = l.disk;
      follower = f.disk;
      size = f.sectors ∙ m.size ∙ sym l.sectors;
      mark = record { disk = m.mark.disk; room = m.mark.room; side = m.mark.side; named = m.mark.named };
      marks = m.marks ∙ sym l.sectors;
      agree = rw (l.same, f.same) m.agree;
    }

    after_same : (shown after).contents ≡ (shown old).contents
    after_same = rw (l.same, f.same) refl

    read_by : {T E : Type 0} (result : Result T E) → (is_err result ≡ false → IfSome (shown old).contents (Gave at n out))
        → (is_err result ≡ true → Rose (shown old).faults (shown after).faults × ReadCause at (n / 512) old after) → MirrorReads at n result out old after
    read_by result given why = record {
      mirror = after_mirror;
      reads = record {
        call = run_shown old after m after_mirror l.sectors (omega (arith, l.later, f.later)) (is_err result) (ap is_some after_same) (λ bad. (why bad).0);
        same = after_same;
        given = given_for result given;
        log = refl;
      };
      keeps = record { later = omega arith; stale = λ s was is. absurd (both_ways (is_loose old.stale s) was is); lead = inl refl };
      counts = counts_same old after refl l.later f.later (omega arith);
      side = refl;
      stale = refl;
      mark = refl;
      settled = refl;
      lead = l.same;
      follower = f.same;
      cause = λ bad. (why bad).1;
    }

  -- the lead gave it
  pub lead_reads : {T E : Type 0} (result : Result T E) (r : Answer) (lead : DiskState) → is_err result ≡ false → is_err r ≡ false
      → Reads at n r out old.lead lead → MirrorReads at n result out old (record old { lead = lead })
  lead_reads result r lead done ok reads =
      read_by lead old.follower (looked at n r out old.lead lead reads) (record { disk = m.follower; sectors = refl; same = refl; later = omega arith }) result
      (λ _. from_lead (Gave at n out) (Gave at n out) old.stale (Holds old) old.lead.contents old.follower.contents (ok_given r ok reads.given) (holds_of old m)
      (λ p h g. g))
      (λ bad. absurd (both_ways (is_err result) done bad))

  module _ (range : IsRange at n old.lead.sectors) {T E : Type 0} (result : Result T E) (r : Answer) (some : List ℕ) (lead : DiskState) (bad : is_err r ≡ true)
      (reads : Reads at n r some old.lead lead) where
    l : Looked old.lead lead
    l = looked at n r some old.lead lead reads

    rose : Rose old.lead.faults lead.faults
    rose = OnTrue_at bad reads.call.cause

    -- the follower has a stale sector there
    stale_reads : is_err result ≡ true → (IsClear old.stale at (n / 512) → ⊥) → MirrorReads at n result out old (record old { lead = lead })
    stale_reads failed stale =
        read_by lead old.follower l (record { disk = m.follower; sectors = refl; same = refl; later = omega arith }) result
        (λ done. absurd (both_ways (is_err result) done failed))
        (λ _. (
          rose_part old.lead.faults lead.faults (shown old).faults (shown (record old { lead = lead })).faults rose (omega arith)
              (omega arith),
          record { lead = lead_same old (record old { lead = lead }) refl rose; follower = inl stale },
        ))

    -- the follower is read
    follower_reads : (follower : DiskState) → IsClear old.stale at (n / 512) → Reads at n result out old.follower follower
        → MirrorReads at n result out old (record old { lead = lead; follower = follower })
    follower_reads follower clear f =
        let both_read : Pair = record old { lead = lead; follower = follower } in
        read_by lead follower l (looked at n result out old.follower follower f) result
        (λ done. from_follower (Gave at n out) (Gave at n out) old.stale (Holds old) old.lead.contents old.follower.contents (ok_given result done f.given)
        (holds_of old m) (λ p h g. g ∙ same_range p h.1 clear))
        (λ failed. (
          rose_part old.lead.faults lead.faults (shown old).faults (shown both_read).faults rose (omega arith) (omega (arith, f.call.later)),
          record { lead = lead_same old both_read refl rose; follower = inr (follower_same old both_read m.mark.side refl (OnTrue_at failed f.call.cause)) },
        ))
      where
        same_range : (p : Contents × Contents) → Agree old.settled old.stale p → IsClear old.stale at (n / 512)
            → take n (drop (512 * at) p.1.bytes) ≡ take n (drop (512 * at) p.0.bytes)
        same_range p agree none =
            let whole : 512 * (n / 512) ≡ n = range.whole in
            let e = range_same (n / 512) at p.1.bytes p.0.bytes (λ s low high. agree.same s (none s low high)) in
            rw whole at e

    pub fallen_reads : (new : Pair) → FollowerReads at n result out (record old { lead = lead }) new → MirrorReads at n result out old new
    fallen_reads new reads_follower = elim reads_follower [
      | inl none ↦ subst (MirrorReads at n result out old) (sym none.2) (stale_reads none.0 none.1)
      | inr some_read ↦ subst (MirrorReads at n result out old) (sym some_read.1) (follower_reads new.follower some_read.0 some_read.2)
    ]
