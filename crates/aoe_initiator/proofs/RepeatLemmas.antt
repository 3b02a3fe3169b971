-- A frame that is sent again.
use Rattle.std.proofs.Common.{ℕ, ◌≡◌, ◌+◌, ◌-◌, not, min, Bool, true, false, List, ◌∷◌, map, Option, Some, None, refl, sym, ap, subst, ◌∙◌, arith, nat_le}
use Rattle.std.specs.Prelude.{All, Contains, IfNone, IfSome}
use Rattle.std.proofs.lemmas.Bool.{and_parts, not-true}
use Rattle.aoe_base.specs.declared.counted.DeviceNo.{DeviceNo}
use Rattle.aoe_base.specs.declared.counted.Millis.{Millis}
use Rattle.aoe_base.specs.declared.counted.PathNo.{PathNo}
use Rattle.aoe_base.specs.declared.counted.Ticket.{Ticket}
use Rattle.aoe_flight.specs.declared.outstanding.Flying.{Flying}
use Rattle.aoe_flight.specs.declared.outstanding.Outstanding.{Outstanding}
use Rattle.aoe_flight.specs.FlightTable.{after_change, Recalls as RecallsSent}
use Rattle.aoe_flight.specs.Outstanding.{after_repeat, change_of, is_due, precedes, IsFirst}
use Rattle.aoe_flight.proofs.RecallLemmas.{recalls-change}
use Rattle.aoe_initiator.specs.declared.step.Sent.{Sent}
use Rattle.aoe_initiator.specs.Host.{HasPaths, Host, Matches}
use Rattle.aoe_initiator.specs.HostLaw.{IsFrameOf, IsNext, IsNextBy, IsOnNextPath, IsRepeat}
use Rattle.aoe_initiator.specs.HostLog.{commands, outstanding, path_log, sent_of, wait_of, Event, HostCommand, Sending}
use Rattle.aoe_initiator.specs.HostLog.Event.{Sends}
use Rattle.aoe_initiator.specs.Steps.{place, GivesTag, InTime, Repeats}
use Rattle.aoe_initiator.proofs.LogLemmas.{only, sent-repeated, wait-capped}
use Rattle.aoe_initiator.proofs.MatchLemmas.{flying-command, matches-send, one-command, sent-from, IsFlying, IsPending, IsSend}
use Rattle.aoe_initiator.proofs.PathLemmas.{has-paths, path_before, route-next, route-spelled, route-timeout, timeouts_on}
use Rattle.aoe_initiator.proofs.ClearLemmas.{is-placed, pending-of}
use Rattle.aoe_initiator.proofs.StartLemmas.{left-changed, left-same, IsLeft}

-- the commands that were sent have one for each ticket
pub sent-one : (host : Host) (log : List Event) (o : Outstanding) (c : HostCommand) (s : Sending) → Matches log host → Contains (sent_of (commands log)) o
    → Contains (commands log) c → c.sends ≡ Some s → o.ticket.0 ≡ c.ticket.0 → o ≡ outstanding c s
sent-one host log o c s m inside there sends same =
    let from = sent-from (commands log) o inside in
    let is : from.0 ≡ c = one-command (commands log) c from.0 c.ticket.0 (only 0 (commands log) c m.tickets there) from.1.there
    (ap (λ (e : Outstanding). e.ticket.0) (sym from.1.is) ∙ same) refl in
    let some : Some from.1.s ≡ Some s = sym from.1.sends ∙ ap (λ (e : HostCommand). e.sends) is ∙ sends in
    let sending : from.1.s ≡ s = cc in
    from.1.is ∙ rw (is, sending) refl

module _ {host new : Host} {log : List Event} {t : Ticket} {sent : Sent} {frame : List ℕ} (m : Matches log host) (repeats : Repeats host t sent frame new) where
  -- the flying command with the ticket, and its pending entry
  record IsRepeated (c : HostCommand) : Type 0 where
    flies : IsFlying (commands log) t repeats.flying c
    pending : IsPending (commands log) repeats.command c
    ticket : c.ticket ≡ t
    missed : path_before c.sends ≡ Some repeats.flying.path

  repeated : (c : HostCommand) × IsRepeated c
  repeated =
      let flying = flying-command host.flight (commands log) t repeats.flying m.sent repeats.flies in
      let c = flying.0 in
      let f = flying.1 in (
        c,
        record {
          flies = f;
          pending = pending-of host log t repeats.at repeats.command c m repeats.found repeats.there f.there f.same;
          ticket = ap (λ (n : ℕ). record { 0 = n }) f.same;
          missed = ap path_before f.sends ∙ sym (ap (λ (g : Flying). Some g.path) f.flying);
        },
      )

  is_ticket : sent.ticket ≡ t
  is_ticket = ap (λ (s : Sent). s.ticket) repeats.is

  is_path : sent.path ≡ repeats.route.path
  is_path = ap (λ (s : Sent). s.path) repeats.is

  has : HasPaths host.ports (path_log log repeats.command.device.0) repeats.device
  has = has-paths host log repeats.command.device.0 repeats.device m repeats.held

  pub repeat-next : ((o : Outstanding) × (o.ticket ≡ t) × IsFirst (is_due host.clock) precedes (sent_of (commands log)) o) → IsRepeat host (commands log) sent
  repeat-next first =
      let c = repeated in
      let f = c.1.flies in
      let o = first.0 in
      let is = sent-one host log o c.0 f.s m first.2.there f.there f.sends (ap (λ (u : Ticket). u.0) first.1 ∙ sym f.same) in
      let tag = ap (λ (e : Outstanding). e.flying.tag) is ∙ ap (λ (g : Flying). g.tag) (sym f.flying) in
      let repeat : IsRepeat host (commands log) (record { ticket = t; tag = repeats.flying.tag; path = repeats.route.path; again = true }) =
      record { command = o; first_due = first.2; ticket = first.1; tag = tag } in
      rw repeats.is repeat

  pub repeat-frame : IsFrameOf host (commands log) sent frame
  repeat-frame =
      let p = repeats.command in
      let c = repeated in
      record {
        command = c.0;
        there = c.1.flies.there;
        ticket = c.1.ticket ∙ sym is_ticket;
        bytes = rw (c.1.pending.op, c.1.pending.device, ap (λ (s : Sent). s.tag) repeats.is, is_path)
            (route-spelled host p.op p.device (path_log log p.device.0) repeats.device
            (Some repeats.flying.path) repeats.route repeats.flying.tag frame has repeats.held repeats.routed repeats.bytes);
      }

  pub repeat-path : IsOnNextPath host log sent
  repeat-path =
      let n : ℕ = repeats.command.device.0 in
      let c = repeated in
      let routed = rw (← c.1.missed) at repeats.routed in
      record {
        command = c.0;
        there = c.1.flies.there;
        ticket = c.1.ticket ∙ sym is_ticket;
        next = ap (λ (q : PathNo). q.0) is_path
            ∙ rw c.1.pending.device (route-next host n (path_log log n) repeats.device c.0.sends repeats.route has repeats.held routed);
      }

  pub repeat-sends : InTime host → Matches (Sends sent.ticket sent.tag sent.path ∷ log) new
  repeat-sends time =
      let p = repeats.command in
      let cs = commands log in
      let now : Millis = record { 0 = host.clock } in
      let path = repeats.route.path in
      let ts = timeouts_on log path in
      let f = repeats.flying in
      let c = repeated.0 in
      let is = repeated.1 in
      let s = is.flies.s in
      let timeout : repeats.route.timeout.0 ≡ ts c.device.0 =
      route-timeout host.ports (path_log log p.device.0) repeats.device (Some f.path) repeats.route has repeats.routed
      ∙ ap (λ (d : DeviceNo). ts d.0) (sym is.pending.device) in
      let sends_is : f.sends ≡ min s.count 32 = ap (λ (g : Flying). g.sends) is.flies.flying in
      let twice : min f.sends 32 ≡ min s.count 32 = omega (arith, sends_is) in
      let wait : ℕ = wait_of repeats.route.timeout.0 (min f.sends 32 + 1) in
      let wait_is : wait ≡ wait_of (ts c.device.0) (s.count + 1) =
      ap (λ k. wait_of k (min f.sends 32 + 1)) timeout ∙ ap (λ n. wait_of (ts c.device.0) (n + 1)) twice ∙ wait-capped (ts c.device.0) s.count in
      let change = after_repeat now path (record { 0 = wait }) in
      let flight = after_change host.flight t.0 change host.clock in
      let changed : RecallsSent flight (map (change_of t.0 change) (sent_of cs)) =
      recalls-change host.flight _ (sent_of cs) t.0 change host.clock refl m.sent time.flight in
      let mapped = sent-repeated c s sent.tag now path ts cs is.flies.sends is.flies.waits (only 0 cs c m.tickets is.flies.there) in
      let mapped_t = rw is.ticket at (rw (← wait_is) at mapped) in
      let send : IsSend log host new t sent (Some f.path) flight p c = record {
        pending = is.pending;
        ticket = is.ticket;
        named = is_ticket;
        before = is.missed;
        rest = refl;
        room = refl;
        dead = refl;
        recalled = rw is_path (rw mapped_t changed);
        after = rw is_path repeats.after;
      } in
      matches-send log host new t sent (Some f.path) flight p c m time.devices send

pub left-repeated : (old new : Host) (t : Ticket) (frame : List ℕ) (o : Option Sent) → IfSome o (λ sent. Repeats old t sent frame new) → IfNone o (new ≡ old)
    → IsLeft old new
left-repeated old new t frame None some none = rw none (left-same old)
left-repeated old new t frame (Some sent) some none = left-changed old new _ some.command.device.0 t (record { 0 = old.clock })
    (Some some.flying.path) some.route.path some.after

-- the first due command has the ticket
abbrev pub IsFirstDue : Host → Ticket → Type 0
IsFirstDue host t = (sent : List Outstanding) → RecallsSent host.flight sent → (e : Outstanding) × (e.ticket ≡ t) × IsFirst (is_due host.clock) precedes sent e

-- what flies is pending, so a repeat always finds it
pub repeat-none : (o : Option Sent) (host : Host) (t : Ticket) → IfNone o (place t host.pending ≡ None) → IsFirstDue host t
    → IfNone o ((log : List Event) → Matches log host → All (λ e. is_due host.clock e ≡ false) (sent_of (commands log)))
repeat-none (Some sent) host t missing first = tt
repeat-none None host t missing first = λ log m.
    let found = first (sent_of (commands log)) m.sent in
    let o = found.0 in
    let from = sent-from (commands log) o found.2.there in
    let parts = and_parts (not o.finished) (nat_le o.wait.0 (host.clock - o.flying.last.0)) found.2.passes in
    let waits = ap (λ (e : Outstanding). e.finished) (sym from.1.is) ∙ not-true o.finished parts.0 in
    let ticket = ap (λ (e : Outstanding). e.ticket.0) (sym from.1.is) ∙ ap (λ (u : Ticket). u.0) found.1 in
    absurd (is-placed host log t from.0 m from.1.there waits ticket missing)

-- ---- where nothing is due

abbrev pub IsIdle : Host → Type 0
IsIdle host = (sent : List Outstanding) → RecallsSent host.flight sent → All (λ e. is_due host.clock e ≡ false) sent

-- nothing is due in any log
abbrev pub HasNoneDue : Host → Type 0
HasNoneDue host = (log : List Event) → Matches log host → All (λ e. is_due host.clock e ≡ false) (sent_of (commands log))

pub idle-none : (host : Host) → IsIdle host → HasNoneDue host
idle-none host idle log m = idle (sent_of (commands log)) m.sent

-- a repeat gives no tag
pub repeat-tag : (o : Option Sent) (old new : Host) (t : Ticket) (frame : List ℕ) → IfSome o (λ sent. Repeats old t sent frame new) → IfNone o (new ≡ old)
    → new.flight.last_tag ≡ old.flight.last_tag
repeat-tag None old new t frame some none = ap (λ (h : Host). h.flight.last_tag) none
repeat-tag (Some sent) old new t frame some none = ap (λ (h : Host). h.flight.last_tag) some.after

pub again-tag : (sent : Sent) (old new : Host) → sent.again ≡ true → new.flight.last_tag ≡ old.flight.last_tag
    → GivesTag sent.again old.flight old.clock sent.tag new.flight
again-tag sent old new again same = let P : Bool → Type 0 = λ b. GivesTag b old.flight old.clock sent.tag new.flight in subst P (sym again) same

pub again-next : {host : Host} {cs : List HostCommand} {sent : Sent} → sent.again ≡ true → IsRepeat host cs sent → IsNext host cs sent
again-next {host} {cs} {sent} again repeat = let P : Bool → Type 0 = λ b. IsNextBy b host cs sent in subst P (sym again) repeat
