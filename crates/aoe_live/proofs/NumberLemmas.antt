-- The number of a frame that a link gave back.
use Rattle.std.proofs.Common.{ℕ, suc, ◌≡◌, ◌-◌, ◌≤◌, Bool, true, false, List, [], ◌∷◌, length, nat_lt, Option, Some, None, refl, ap, ◌∙◌, arith}
use Rattle.std.specs.Prelude.{IsSomeAnd, if◌then◌else◌}
use Rattle.std.specs.Option.{option_or}
use Rattle.std.specs.Str.{bytes_eq}
use Rattle.aoe_history.specs.declared.entry.Entry.{Entry}
use Rattle.aoe_history.specs.declared.entry.Entry.TheVariants.{Sent, Arrived}
use Rattle.aoe_history.specs.declared.entry.Fate.{Fate}
use Rattle.aoe_history.specs.declared.entry.Fate.TheVariants.{Replied}
use Rattle.aoe_history.specs.Frames.{frames, next_number}
use Rattle.aoe_history.specs.HostLaw.{IsSent}
use Rattle.aoe_history.specs.Lawful.{IsArrival, IsLawful, IsNumbered, MayCome}
use Rattle.aoe_history.specs.Setup.{host_called, slot_of, HostSetup, Setup, SlotSetup}
use Rattle.aoe_live.specs.declared.frames.Sender.{Sender}
use Rattle.aoe_live.specs.declared.frames.Sender.TheVariants as sender
use Rattle.aoe_live.specs.Frames.{frame_by, matching, ms_of, newest, Numbered}
use Rattle.aoe_world.proofs.ScheduleKeeps.{frames-grow}

matching-number : (f : List ℕ) (x : Numbered) (n : ℕ) → matching f (Some x) ≡ Some n → x.number ≡ n
matching-number f x n = go (bytes_eq x.bytes f)
  where
    go : (b : Bool) → (if b then Some x.number else None) ≡ Some n → x.number ≡ n
    go true is = cc
    go false is = absurd cc

-- the number of a frame is one more than there were frames
sent-number : (s : Setup) (h : List Entry) (o : Option HostSetup) (ticket number : ℕ) (bytes : List ℕ)
    → IsSomeAnd o (λ host. IsSent s host h ticket number bytes) → number ≡ next_number h
sent-number s h None ticket number bytes may = absurd may
sent-number s h (Some host) ticket number bytes may = may.number_is

reply-number : (s : Setup) (h : List Entry) (o : Option SlotSetup) (frame : ℕ) (fate : Fate) → IsSomeAnd o (λ slot. IsArrival s slot h frame fate)
    → IsNumbered (next_number h) fate
reply-number s h None frame fate may = absurd may
reply-number s h (Some slot) frame fate may = may.numbered

-- so it is that of one of the frames up to there
abbrev IsOne : ℕ → List Entry → Type 0
IsOne n h = (1 ≤ n) × (n ≤ length (frames h))

newly : (n number : ℕ) (h m : List Entry) → number ≡ n → number ≡ next_number h → length (frames m) ≡ suc (length (frames h)) → IsOne n m
newly n number h m same is count = (omega (arith, same, is), omega (arith, same, is, count))

by-host : (s : Setup) (e : Entry) (h : List Entry) (f : List ℕ) (n : ℕ) → MayCome s h e → matching f (frame_by sender.Host e) ≡ Some n → IsOne n (e ∷ h)
by-host s (Sent host ticket number bytes) h f n may is =
    newly n number h (Sent host ticket number bytes ∷ h) (matching-number f (record { number = number; bytes = bytes }) n is)
    (sent-number s h (host_called s host) ticket number bytes may) refl
by-host s _ h f n may is = absurd cc

by-shelf : (s : Setup) (e : Entry) (h : List Entry) (f : List ℕ) (n : ℕ) → MayCome s h e → matching f (frame_by sender.Shelf e) ≡ Some n → IsOne n (e ∷ h)
by-shelf s (Arrived dev frame (Replied effect number bytes)) h f n may is =
    newly n number h (Arrived dev frame (Replied effect number bytes) ∷ h) (matching-number f (record { number = number; bytes = bytes }) n is)
    (reply-number s h (slot_of s dev) frame (Replied effect number bytes) may) refl
by-shelf s _ h f n may is = absurd cc

by : (x : Sender) (s : Setup) (e : Entry) (h : List Entry) (f : List ℕ) (n : ℕ) → MayCome s h e → matching f (frame_by x e) ≡ Some n → IsOne n (e ∷ h)
by sender.Host s e h f n may is = by-host s e h f n may is
by sender.Shelf s e h f n may is = by-shelf s e h f n may is

pub newest-one : (x : Sender) (s : Setup) (age : ℕ) (h : List Entry) (f : List ℕ) (n : ℕ) → IsLawful s h → newest x age h f ≡ Some n
    → (1 ≤ n) × (n ≤ length (frames h))
newest-one x s age [] f n lawful is = absurd cc
newest-one x s age (e ∷ h) f n lawful is = at (matching f (frame_by x e)) refl (newest-one x s (age - ms_of e) h f n lawful.1) is
  where
    later : IsOne n h → IsOne n (e ∷ h)
    later one = let more = frames-grow e h in (one.0, omega (arith, one.1, more))

    old : (b : Bool) → (newest x (age - ms_of e) h f ≡ Some n → IsOne n h) → (if b then None else newest x (age - ms_of e) h f) ≡ Some n → IsOne n (e ∷ h)
    old true before is = absurd cc
    old false before is = later (before is)

    at : (o : Option ℕ) → matching f (frame_by x e) ≡ o → (newest x (age - ms_of e) h f ≡ Some n → IsOne n h)
        → option_or o (if nat_lt age (ms_of e) then None else newest x (age - ms_of e) h f) ≡ Some n → IsOne n (e ∷ h)
    at None other before is = old (nat_lt age (ms_of e)) before is
    at (Some k) found before is = let same : k ≡ n = cc in by x s e h f n lawful.0 (found ∙ ap Some same)
