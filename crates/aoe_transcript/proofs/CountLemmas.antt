-- What one entry more counts.
use Rattle.std.proofs.Common.{◌≡◌, ◌∙◌, ◌+◌, ◌<◌, ◌≤◌, ℕ, Bool, true, not, cond, ◌||◌, List, [], ◌∷◌, length, reverse, take, refl, add-zero, arith}
use Rattle.std.specs.Prelude.{count_by, Some, slice_get}
use Rattle.std.specs.Borrow.{Bor}
use Rattle.std.specs.HashSet.{contains, HashSet, Updates}
use Rattle.std.proofs.lemmas.List.{length-reverse, length-take, reverse-append, take_more}
use Rattle.std.proofs.lemmas.List.Sums.{count_by-le-length}
use Rattle.std.proofs.lemmas.Option.{get_or_from_slice_get, slice_get_within}
use Rattle.aoe_base.proofs.CountLemmas.{count-yes}
use Rattle.arrayvec.specs.ArrayVec.{ArrayVec}
use Rattle.aoe_base.specs.declared.address.TargetId.{TargetId}
use Rattle.aoe_history.specs.declared.entry.Entry.{Entry}
use Rattle.aoe_history.specs.declared.entry.Entry.TheVariants.{Sent, Injected, Arrived}
use Rattle.aoe_history.specs.declared.entry.Fate.{Fate}
use Rattle.aoe_history.specs.declared.entry.Fate.TheVariants.{Replied}
use Rattle.aoe_history.specs.Frames.{frames}
use Rattle.aoe_transcript.specs.Counting.{same_command, AreBelow, Command, HasSent}
use Rattle.aoe_transcript.specs.Counts.{is_arrived, is_crashed, is_done, is_lost, is_sent, repeats, sends_again, summary_of}
use Rattle.aoe_transcript.specs.declared.summary.Summary.{Summary}

-- ---- counts

one_more : {X : Type 0} (p : X → Bool) (x : X) (xs : List X) → p x ≡ true → count_by p (x ∷ xs) ≡ count_by p xs + 1
one_more p x xs is = omega (arith, count-yes p x xs is)

pub arrived_counts : (before : Summary) (events n : ℕ) (dev : TargetId) (frame : ℕ) (fate : Fate) (h : List Entry) → before ≡ summary_of events h
    → length (frames (Arrived dev frame fate ∷ h)) ≡ length (frames h) + n
    → record before { frames = before.frames + n; arrived = before.arrived + 1 } ≡ summary_of events (Arrived dev frame fate ∷ h)
arrived_counts before events n dev frame fate h is replies =
    rw (is, replies, one_more is_arrived (Arrived dev frame fate) h refl, add-zero (repeats h))

-- ---- commands that were seen

or_cond : (a b : Bool) → cond a true b ≡ (a || b)
or_cond a b = grind arith

not_not : (b : Bool) → not (not b) ≡ b
not_not b = grind arith

pub seen_more : {S : Type 0} (before after : HashSet Command S) (host : ArrayVec ℕ) (name : Bor (List ℕ)) (ticket frame : ℕ)
    (bytes : List ℕ) (is_new : Bool) (h : List Entry)
    → name.now ≡ host.items → is_new ≡ not (contains same_command before (name, ticket)) → Updates same_command before after (name, ticket) true
    → HasSent before h → (not is_new ≡ sends_again (Sent host ticket frame bytes) h) × HasSent after (Sent host ticket frame bytes ∷ h)
seen_more before after host name ticket frame bytes is_new h same was updates has = (
  rw (was, not_not, has (name, ticket), same),
  λ command. updates.0 command ∙ rw (or_cond, has command, same),
)

-- ---- counts fit

frames_within : (h : List Entry) → length (frames h) ≤ length h
frames_within [] = omega arith
frames_within (Sent host ticket frame bytes ∷ h) = omega (arith, frames_within h)
frames_within (Injected frame bytes ∷ h) = omega (arith, frames_within h)
frames_within (Arrived dev frame (Replied effect number bytes) ∷ h) = omega (arith, frames_within h)
frames_within (_ ∷ h) = omega (arith, frames_within h)

repeats_within : (h : List Entry) → repeats h ≤ length h
repeats_within [] = omega arith
repeats_within (entry ∷ h) = grind (arith, repeats_within h)

pub counts_fit : (limit events : ℕ) (h : List Entry) → length h < limit → AreBelow limit (summary_of events h)
counts_fit limit events h short = record {
  frames = omega (arith, frames_within h);
  sent = omega (arith, count_by-le-length is_sent h);
  again = omega (arith, repeats_within h);
  arrived = omega (arith, count_by-le-length is_arrived h);
  done = omega (arith, count_by-le-length is_done h);
  lost = omega (arith, count_by-le-length is_lost h);
  crashed = omega (arith, count_by-le-length is_crashed h);
}

-- ---- the entries so far, the latest first

pub so_far_short : {X : Type 0} (limit i : ℕ) (xs : List X) → i < limit → length (reverse (take i xs)) < limit
so_far_short limit i xs lt = omega (arith, length-reverse (take i xs), length-take i xs)

pub one_later : {X : Type 0} (xs : List X) (i : ℕ) (x : X) → slice_get xs i ≡ Some x → reverse (take (i + 1) xs) ≡ x ∷ reverse (take i xs)
one_later xs i x e = rw (take_more xs i x (slice_get_within xs i x e), get_or_from_slice_get xs i x x e) (reverse-append (take i xs) (x ∷ []))
