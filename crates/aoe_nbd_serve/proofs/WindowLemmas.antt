-- One frame that a host sends, and one turn of a link.
use Rattle.std.proofs.Common.{ℕ, ◌≡◌, ◌+◌, Bool, true, false, List, [], ◌∷◌, length, Option, Some, None, refl, ap, ◌∙◌}
use Rattle.std.specs.Prelude.{IfSome, is_some}
use Rattle.std.proofs.lemmas.List.{append-nil}
use Rattle.aoe_block.specs.Exchange.{HearsOne, IsHeld, Sends}
use Rattle.aoe_block.proofs.HostLemmas.{same-self}
use Rattle.aoe_block.proofs.SendLemmas.{added-nothing, sends-more, sends-none, Pulls}
use Rattle.aoe_block.proofs.HearLemmas.{hears-answer, hears-stale}
use Rattle.aoe_initiator.specs.declared.step.Sent.{Sent}
use Rattle.aoe_initiator.specs.declared.step.Taken.{Taken}
use Rattle.aoe_initiator.specs.declared.step.Taken.TheVariants.{Finished, Stale}
use Rattle.aoe_initiator.specs.Host.{Host, IsSame, Matches}
use Rattle.aoe_initiator.specs.HostLaw.{IsFrameOf, IsNextBy, IsOnNextPath, IsRepeat, Takes}
use Rattle.aoe_initiator.specs.HostLog.{commands, Event, HostCommand}
use Rattle.aoe_initiator.specs.HostLog.Event.{Sends as Sent_as}
use Rattle.aoe_initiator.specs.Steps.{GivesTag}
use Rattle.aoe_flight.specs.FlightTable.{FlightTable}
use Rattle.aoe_io.specs.Link.{Added, came, ended, quiet, Turn, Turned}
use Rattle.aoe_io.specs.declared.links.Got.TheVariants as got
use Rattle.aoe_nbd_serve.specs.Window.{HearsTurn}

-- a frame that was pulled is taken by the link
pub sends-pulled : {host host' : Host} {sent : Sent} {frame : List ℕ} {before after : Option (List (List ℕ))} → Pulls host host' sent frame
    → Added before after (frame ∷ []) → (s : Sends host host' before after) × (length s.sent ≡ 1)
sends-pulled {host} {before = before} {after} p took =
    let more = sends-more (sends-none host before).0 p after took in (more.0, more.1 ∙ ap (λ (n : ℕ). n + 1) (sends-none host before).1)

-- nothing was
pub sends-nothing : {host host' : Host} (before : Option (List (List ℕ))) → ((log : List Event) → Matches log host → Matches log host') → IsHeld host host'
    → host'.waiting ≡ host.waiting → host'.flight.last_tag ≡ host.flight.last_tag → (s : Sends host host' before before) × (length s.sent ≡ 0)
sends-nothing before stays held waiting tag = (
  record {
    sent = [];
    took = added-nothing before;
    law = λ base log same m tags. (tt, stays log m, rw tag tags);
    held = held;
    waiting = waiting;
  },
  refl,
)

next-by : (host : Host) (cs : List HostCommand) (sent : Sent) (again : Bool) → again ≡ true → IsRepeat host cs sent → IsNextBy again host cs sent
next-by host cs sent true e repeat = repeat
next-by host cs sent false e repeat = absurd cc

tag-by : (old : FlightTable) (now tag : ℕ) (new : FlightTable) (again : Bool) → again ≡ true → new.last_tag ≡ old.last_tag → GivesTag again old now tag new
tag-by old now tag new true e same = same
tag-by old now tag new false e same = absurd cc

-- a repeat is what may be sent next, with its tag
module _ (host host' : Host) (frame : List ℕ) where
  pub pulls-again : (o : Option Sent) → is_some o ≡ true
      → IfSome o (λ sent. (log : List Event) → Matches log host → IsRepeat host (commands log) sent)
      → IfSome o (λ sent. sent.again ≡ true)
      → IfSome o (λ sent. (log : List Event) → Matches log host → IsFrameOf host (commands log) sent frame)
      → IfSome o (λ sent. (log : List Event) → Matches log host → IsOnNextPath host log sent)
      → IfSome o (λ sent. (log : List Event) → Matches log host → Matches (Sent_as sent.ticket sent.tag sent.path ∷ log) host')
      → host'.flight.last_tag ≡ host.flight.last_tag
      → IsHeld host host' → host'.waiting ≡ host.waiting → (sent : Sent) × Pulls host host' sent frame
  pulls-again None e repeat again frame_is path sends tag held waiting = absurd cc
  pulls-again (Some sent) e repeat again frame_is path sends tag held waiting = (
    sent,
    record {
      next = λ log m. next-by host (commands log) sent sent.again again (repeat log m);
      frame_is = frame_is;
      path = path;
      sends = sends;
      tag = tag-by host.flight host.clock sent.tag host'.flight sent.again again tag;
      held = held;
      waiting = waiting;
    },
  )

pub hears-quiet : {host : Host} {start turned' : ℕ} {given given' : Option (List Turn)} → Turned start turned' given given' (quiet ∷ [])
    → HearsOne false host host start turned' given given'
hears-quiet {host} turned = record {
  brought = quiet;
  turned_by = turned;
  hears = λ base log same m. (None, tt, m, rw append-nil refl, refl);
  held = record { same = same-self host; last = refl };
  tag = refl;
}

pub hears-ended : {host : Host} {start turned' : ℕ} {given given' : Option (List Turn)} → Turned start turned' given given' (ended ∷ [])
    → HearsTurn got.Ended host host start turned' given given'
hears-ended {host} turned = record {
  finished = false;
  one = record {
    brought = ended;
    turned_by = turned;
    hears = λ base log same m. (None, tt, m, rw append-nil refl, refl);
    held = record { same = same-self host; last = refl };
    tag = refl;
  };
  is = λ e. refl;
}

pub sends-none-pulled : {host host' : Host} → host' ≡ host → (before : Option (List (List ℕ))) → (s : Sends host host' before before) × (length s.sent ≡ 0)
sends-none-pulled {host} is before = rw is (sends-none host before)

-- a frame came, which ended a command or none
module _ {host host' : Host} {start turned' : ℕ} {given given' : Option (List Turn)} (frame : List ℕ)
    (turned : Turned start turned' given given' (came frame ∷ []))
    (held : IsSame host host' × (host'.clock ≡ host.clock) × (host'.last_ticket ≡ host.last_ticket))
    (no_tag : host'.flight.last_tag ≡ host.flight.last_tag) where
  pub heard-frame : (taken : Taken) → ((log : List Event) → Matches log host → Takes host frame log taken host')
      → HearsTurn got.Frame host host' start turned' given given'
  heard-frame (Finished ticket) takes = record { finished = true; one = hears-answer frame turned held no_tag takes; is = λ e. absurd cc }
  heard-frame Stale takes = record { finished = false; one = hears-stale frame turned held no_tag takes; is = λ e. absurd cc }
