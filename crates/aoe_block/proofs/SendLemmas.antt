-- The frames of a turn, one by one.
use Rattle.std.proofs.Common.{ℕ, ◌≡◌, ◌≤◌, ◌+◌, List, [], ◌∷◌, length, map, Option, Some, None, ◌∙◌, refl, arith, inl, inr}
use Rattle.std.specs.Prelude.{IfNone, IfSome, is_some, true, false}
use Rattle.aoe_initiator.proofs.MatchLemmas.{same-then}
use Rattle.aoe_initiator.specs.declared.step.Sent.{Sent}
use Rattle.aoe_initiator.specs.Host.{Host, IsSame, Matches}
use Rattle.aoe_initiator.specs.HostLaw.{IsFrameOf, IsNext, IsOnNextPath, IsQuiet}
use Rattle.aoe_initiator.specs.HostLog.{commands, Event}
use Rattle.aoe_initiator.specs.HostLog.Event.{Sends as Sent-as}
use Rattle.aoe_initiator.specs.Steps.{GivesTag}
use Rattle.aoe_io.proofs.LinkLemmas.{Added-then}
use Rattle.aoe_io.specs.Link.{Added}
use Rattle.aoe_block.specs.Exchange.{IsHeld, Sends, SendsAll}
use Rattle.aoe_block.specs.Turns.{after_frames, most_tagged, AreSent, AreTagged, IsSilent, MaySend, Outgoing}
use Rattle.aoe_block.proofs.HostLemmas.{many-sent, same-self}
use Rattle.aoe_block.proofs.TagLemmas.{tags-sent}

abbrev pub Frames : Type 0
Frames = List (List ℕ)

pub added-nothing : {A : Type 0} (a : Option (List A)) → Added a a []
added-nothing None = refl
added-nothing (Some l) = refl

-- what the next frame does to the host
pub record Pulls (host host' : Host) (sent : Sent) (frame : List ℕ) : Type 0 where
  pub next : (log : List Event) → Matches log host → IsNext host (commands log) sent
  pub frame_is : (log : List Event) → Matches log host → IsFrameOf host (commands log) sent frame
  pub path : (log : List Event) → Matches log host → IsOnNextPath host log sent
  pub sends : (log : List Event) → Matches log host → Matches (Sent-as sent.ticket sent.tag sent.path ∷ log) host'
  pub tag : GivesTag sent.again host.flight host.clock sent.tag host'.flight
  pub held : IsHeld host host'
  pub waiting : host'.waiting ≡ host.waiting

pub when-none : {A : Type 0} (Q : Type 0) (o : Option A) → is_some o ≡ false → IfNone o Q → Q
when-none Q None e q = q
when-none Q (Some x) e q = absurd cc

module _ (host host' : Host) (frame : List ℕ) where
  pub pulls : (o : Option Sent) → is_some o ≡ true
      → IfSome o (λ sent. (log : List Event) → Matches log host → IsNext host (commands log) sent)
      → IfSome o (λ sent. (log : List Event) → Matches log host → IsFrameOf host (commands log) sent frame)
      → IfSome o (λ sent. (log : List Event) → Matches log host → IsOnNextPath host log sent)
      → IfSome o (λ sent. (log : List Event) → Matches log host → Matches (Sent-as sent.ticket sent.tag sent.path ∷ log) host')
      → IfSome o (λ sent. GivesTag sent.again host.flight host.clock sent.tag host'.flight)
      → IsHeld host host' → host'.waiting ≡ host.waiting → (sent : Sent) × Pulls host host' sent frame
  pulls None e next frame_is path sends tag held waiting = absurd cc
  pulls (Some sent) e next frame_is path sends tag held waiting =
      (sent, record { next = next; frame_is = frame_is; path = path; sends = sends; tag = tag; held = held; waiting = waiting })

pub sends-none : (host : Host) (taken : Option Frames) → (s : Sends host host taken taken) × (length s.sent ≡ 0)
sends-none host taken = (
  record {
    sent = [];
    took = added-nothing taken;
    law = λ base log same m tags. (tt, m, tags);
    held = record { same = same-self host; last = refl };
    waiting = refl;
  },
  refl,
)

-- nothing more may be sent by a host that is quiet
silent : {base start host : Host} {log : List Event} → IsSame base start → IsHeld start host → Matches log host → IsQuiet host (commands log)
    → IsSilent base log
silent {base} {start} {host} same held m quiet =
    record { host = host; at = record { same = same-then base start host same held.same; time = m.time }; quiet = quiet }

module _ {start host : Host} {before mid : Option Frames} (s : Sends start host before mid) where
  next-held : {host' : Host} → IsHeld host host' → IsHeld start host'
  next-held {host'} held = record { same = same-then start host host' s.held.same held.same; last = held.last ∙ s.held.last }

  module _ {host' : Host} {sent : Sent} {frame : List ℕ} (p : Pulls host host' sent frame) where
    abbrev out : Outgoing
    out = record { sent = sent; frame = frame }

    next-law : (base : Host) (log : List Event) → IsSame base start → Matches log start → AreTagged start.flight.last_tag log
        → AreSent base log (out ∷ s.sent) × Matches (after_frames (out ∷ s.sent) log) host'
        × AreTagged host'.flight.last_tag (after_frames (out ∷ s.sent) log)
    next-law base log same m tags =
        let so_far = s.law base log same m tags in
        let log' = after_frames s.sent log in
        let tag = λ (few : length (commands log') ≤ most_tagged). tags-sent host log' so_far.1 (so_far.2 few) host' sent few (p.next log' so_far.1) p.tag in
        let may : MaySend base log' out = record {
          host = host;
          at = record { same = same-then base start host same s.held.same; time = so_far.1.time };
          next = p.next log' so_far.1;
          frame = p.frame_is log' so_far.1;
          path = p.path log' so_far.1;
          tag = λ few. let t = tag few in (t.0, t.1);
        } in
        ((so_far.0, may), p.sends log' so_far.1, λ few. (tag (omega (arith, few, many-sent sent.ticket sent.tag sent.path log'))).2)

    -- the link takes it
    pub sends-more : (after : Option Frames) → Added mid after (frame ∷ []) → (t : Sends start host' before after) × (length t.sent ≡ length s.sent + 1)
    sends-more after took = (
      record {
        sent = out ∷ s.sent;
        took = Added-then before mid after (map (λ (o : Outgoing). o.frame) s.sent) (frame ∷ []) s.took took;
        law = next-law;
        held = next-held p.held;
        waiting = p.waiting ∙ s.waiting;
      },
      omega arith,
    )

  -- no frame is left
  pub sends-all : {most : ℕ} {host' : Host} → length s.sent ≤ most → ((log : List Event) → Matches log host → IsQuiet host (commands log))
      → ((log : List Event) → Matches log host → Matches log host') → IsHeld host host'
      → host'.waiting ≡ host.waiting → host'.flight.last_tag ≡ host.flight.last_tag → SendsAll most start host' before mid
  sends-all few quiet stays held waiting no_tag = record {
    sends = record {
      sent = s.sent;
      took = s.took;
      law = λ base log same m tags. let so_far = s.law base log same m tags in (so_far.0, stays (after_frames s.sent log) so_far.1, rw no_tag so_far.2);
      held = next-held held;
      waiting = waiting ∙ s.waiting;
    };
    few = few;
    all = λ base log same m tags. let so_far = s.law base log same m tags in inl (silent same s.held so_far.1 (quiet (after_frames s.sent log) so_far.1));
  }

  -- as many were sent as may be
  pub sends-full : {most : ℕ} → length s.sent ≡ most → SendsAll most start host before mid
  sends-full is = record { sends = s; few = omega (arith, is); all = λ base log same m tags. inr (omega (arith, is)) }

  -- the link fails, and what it tells stays
  pub sends-fail : {after : Option Frames} → after ≡ mid → (mid' : Host) × Sends start mid' before after
  sends-fail is = (host, rw is s)
