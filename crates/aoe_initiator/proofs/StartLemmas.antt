-- The first frame of a command.
use Rattle.std.proofs.Common.{ℕ, ◌≡◌, ◌*◌, cond, not, Bool, true, false, List, [], ◌∷◌, length, map, Option, Some, None, refl, sym, ap, subst, ◌∙◌}
use Rattle.std.specs.Prelude.{option_map, slice_get, All, Contains, IfNone, IfSome}
use Rattle.std.specs.Option.{option_and_then, option_map_or}
use Rattle.std.proofs.lemmas.Option.{slice_get-map}
use Rattle.aoe_base.specs.declared.counted.DeviceNo.{DeviceNo}
use Rattle.aoe_base.specs.declared.counted.Millis.{Millis}
use Rattle.aoe_base.specs.declared.counted.PathNo.{PathNo}
use Rattle.aoe_base.specs.declared.counted.Ticket.{Ticket}
use Rattle.aoe_flight.specs.declared.outstanding.Outstanding.{Outstanding}
use Rattle.aoe_flight.specs.FlightTable.{FlightTable, Recalls as RecallsSent}
use Rattle.aoe_flight.specs.Outstanding.{is_due, is_over, is_taken, launched, live}
use Rattle.aoe_flight.proofs.RecallLemmas.{same-filter}
use Rattle.aoe_paths.specs.PathLog.{next_of}
use Rattle.aoe_paths.specs.PathTable.{pair_at}
use Rattle.aoe_initiator.specs.declared.device.Device.{Device}
use Rattle.aoe_initiator.specs.declared.op.Op.{Op}
use Rattle.aoe_initiator.specs.declared.step.Sent.{Sent}
use Rattle.aoe_initiator.specs.Devices.{all_clear, change_at, device_at, device_sent, IsLowest}
use Rattle.aoe_initiator.specs.Host.{HasPaths, Host, IsSame, Matches, RecallAll}
use Rattle.aoe_initiator.specs.HostLaw.{paths_to, spelled_for, IsFrameOf, IsNext, IsOnNextPath, IsStart}
use Rattle.aoe_initiator.specs.HostLog.{after_send, at_ticket, commands, path_log, sent_of, wait_of, Event, HostCommand}
use Rattle.aoe_initiator.specs.HostLog.Event.{Sends}
use Rattle.aoe_initiator.specs.Request.{request}
use Rattle.aoe_initiator.specs.Steps.{is_full, place, InTime, Launches}
use Rattle.aoe_initiator.proofs.DeviceLemmas.{about-change_at}
use Rattle.aoe_initiator.proofs.LogLemmas.{sent-started}
use Rattle.aoe_initiator.proofs.MatchLemmas.{matches-send, IsPending, IsSend}
use Rattle.aoe_initiator.proofs.PathLemmas.{has-paths, path_before, route-next, route-spelled, route-timeout, timeouts_on}
use Rattle.aoe_initiator.specs.declared.device.Attached.{Attached}
use Rattle.aoe_initiator.proofs.MatchLemmas.{same-then}
use Rattle.aoe_initiator.proofs.ClearLemmas.{clear-unsent, has-room, lowest-clear, pending-of, IsLowestClear, IsQuietIdle}

-- ---- what a send leaves as it was

-- what goes by a part of a value goes by that part alone
and-then-part : {A B C : Type 0} (part : A → B) (f : B → Option C) (o : Option A) → option_and_then (λ a. f (part a)) o ≡ option_and_then f (option_map part o)
and-then-part part f None = refl
and-then-part part f (Some a) = refl

map-or-part : {A B C : Type 0} (part : A → B) (f : B → C) (c : C) (o : Option A) → option_map_or (λ a. f (part a)) o c ≡ option_map_or f (option_map part o) c
map-or-part part f c None = refl
map-or-part part f c (Some a) = refl

about-slice : (ds es : List Device) (n : ℕ) → map (λ (d : Device). d.about) ds ≡ map (λ (d : Device). d.about) es
    → option_map (λ (d : Device). d.about) (slice_get ds n) ≡ option_map (λ (d : Device). d.about) (slice_get es n)
about-slice ds es n same = sym (slice_get-map _ ds n) ∙ ap (λ l. slice_get l n) same ∙ slice_get-map _ es n

-- the frame goes by what doesn't change of the devices
pub spelled-same : (host new : Host) (op : Op) (device : DeviceNo) (path : PathNo) (tag : ℕ) → IsSame host new
    → spelled_for new op device path tag ≡ spelled_for host op device path tag
spelled-same host new op device path tag same =
    let frame_for : Attached → Option (List ℕ) =
    λ about. option_map (λ pair. request about.flush op about.id pair.1 pair.0 tag) (pair_at host.ports about.remotes.items path.0) in
    rw same.ports (and-then-part (λ (d : Device). d.about) frame_for _ ∙ ap (option_and_then frame_for) (about-slice _ _ device.0 same.devices)
    ∙ sym (and-then-part (λ (d : Device). d.about) frame_for _))

-- and so does the number of paths
paths-same : (host new : Host) (n : ℕ) → IsSame host new → paths_to new n ≡ paths_to host n
paths-same host new n same =
    let paths : Attached → ℕ = λ about. length host.ports * length about.remotes.items in
    rw same.ports (map-or-part (λ (d : Device). d.about) paths 0 _ ∙ ap (λ o. option_map_or paths o 0) (about-slice _ _ n same.devices)
    ∙ sym (map-or-part (λ (d : Device). d.about) paths 0 _))

pub about-mapped : (f : Device → Device) (devices : List Device) → ((d : Device) → (f d).about ≡ d.about)
    → map (λ (d : Device). d.about) (map f devices) ≡ map (λ (d : Device). d.about) devices
about-mapped f [] keeps = refl
about-mapped f (d ∷ devices) keeps = rw (keeps d, about-mapped f devices keeps) refl

pub record IsLeft (old new : Host) : Type 0 where
  pub same : IsSame old new
  pub clock : new.clock ≡ old.clock
  pub last : new.last_ticket ≡ old.last_ticket
  pub waiting : new.waiting ≡ old.waiting

pub left-same : (host : Host) → IsLeft host host
left-same host = record { same = record { ports = refl; life = refl; room = refl; dead = refl; devices = refl }; clock = refl; last = refl; waiting = refl }

pub left-then : {a b c : Host} → IsLeft a b → IsLeft b c → IsLeft a c
left-then one two = record {
  same = same-then _ _ _ one.same two.same;
  clock = two.clock ∙ one.clock;
  last = two.last ∙ one.last;
  waiting = two.waiting ∙ one.waiting;
}

pub left-changed : (old new : Host) (flight : FlightTable) (n : ℕ) (t : Ticket) (now : Millis) (missed : Option PathNo) (path : PathNo)
    → new ≡ record old { flight = flight; devices = change_at n (device_sent t now missed path) old.devices } → IsLeft old new
left-changed old new flight n t now missed path is =
    rw is (record {
      same = record {
        ports = refl;
        life = refl;
        room = refl;
        dead = refl;
        devices = about-change_at n (device_sent t now missed path) old.devices (λ d. refl);
      };
      clock = refl;
      last = refl;
      waiting = refl;
    })

-- where the search for a clear command went over the devices, or had no room
pub left-cleared : (old new : Host) → new ≡ record old { devices = new.devices }
    → new.devices ≡ cond (is_full old) old.devices (map (device_at old.clock) old.devices) → IsLeft old new
left-cleared old new same devices = record {
  same = record {
    ports = ap (λ (h : Host). h.ports) same;
    life = ap (λ (h : Host). h.life) same;
    room = ap (λ (h : Host). h.room) same;
    dead = ap (λ (h : Host). h.dead) same;
    devices = at (is_full old) devices;
  };
  clock = ap (λ (h : Host). h.clock) same;
  last = ap (λ (h : Host). h.last_ticket) same;
  waiting = ap (λ (h : Host). h.waiting) same;
}
  where
    at : (b : Bool) → new.devices ≡ cond b old.devices (map (device_at old.clock) old.devices)
        → map (λ (d : Device). d.about) new.devices ≡ map (λ (d : Device). d.about) old.devices
    at true is = ap (map (λ (d : Device). d.about)) is
    at false is = ap (map (λ (d : Device). d.about)) is ∙ about-mapped (device_at old.clock) old.devices (λ d. refl)

-- ---- the command that is started

-- what the search for a clear command left
pub record IsCleared (old new : Host) (t : Ticket) (at : ℕ) : Type 0 where
  pub room : is_full old ≡ false
  pub found : place t old.pending ≡ Some at
  pub same : new ≡ record old { devices = new.devices }
  pub devices : new.devices ≡ cond (is_full old) old.devices (map (device_at old.clock) old.devices)
  pub lowest : (life : ℕ) (cs : List HostCommand) → RecallAll life cs 0 old.devices → IsLowest (all_clear life old.clock cs 0 old.devices) (Some t)

pub still-room : {old h : Host} {t : Ticket} {at : ℕ} → IsCleared old h t at → is_full h ≡ true → ⊥
still-room {old} {h} cleared full =
    let P : Host → Type 0 = λ g. is_full g ≡ true in
    let full_old : is_full old ≡ true = subst P cleared.same full in
    let impossible : true ≡ false = sym full_old ∙ cleared.room in
    cc

pub start-quiet : (o : Option Sent) (old h : Host) (t : Ticket) (at : ℕ) → IsCleared old h t at → IfNone o (is_full h ≡ true) → IfNone o (IsQuietIdle old)
start-quiet (Some sent) old h t at cleared none = tt
start-quiet None old h t at cleared full = absurd (still-room cleared full)

pub left-launched : (old h new : Host) (t : Ticket) (at : ℕ) (frame : List ℕ) (o : Option Sent) → IsCleared old h t at
    → IfSome o (λ sent. Launches h t at sent frame new) → IfNone o (is_full h ≡ true) → IsLeft h new
left-launched old h new t at frame None cleared some full = absurd (still-room cleared full)
left-launched old h new t at frame (Some sent) cleared some full =
    left-changed h new new.flight some.command.device.0 t (record { 0 = h.clock }) None some.route.path some.after

module _ {old h new : Host} {log : List Event} {t : Ticket} {at : ℕ} {sent : Sent} {frame : List ℕ} (m : Matches log old) (cleared : IsCleared old h t at)
    (launches : Launches h t at sent frame new) where
  -- the clear command with the lowest ticket, and its pending entry
  record IsStarted (c : HostCommand) : Type 0 where
    there : Contains (commands log) c
    ticket : c.ticket ≡ t
    clear : IsLowestClear old log t c
    fresh : c.sends ≡ None
    pending : IsPending (commands log) launches.command c

  started : (c : HostCommand) × IsStarted c
  started =
      let found = lowest-clear old log t m (cleared.lowest old.life.requests.0 (commands log) m.entered) in
      let c = found.0 in
      let clear = found.1.is in
      let at_old : slice_get old.pending at ≡ Some launches.command = rw (ap (λ (g : Host). g.pending) cleared.same) at launches.there in (
        c,
        record {
          there = clear.there;
          ticket = ap (λ (n : ℕ). record { 0 = n }) clear.same;
          clear = found.1;
          fresh = clear-unsent old.life.requests.0 old.clock (commands log) c clear.clear;
          pending = pending-of old log t at launches.command c m cleared.found at_old clear.there clear.same;
        },
      )

  is_ticket : sent.ticket ≡ t
  is_ticket = ap (λ (s : Sent). s.ticket) launches.is

  is_path : sent.path ≡ launches.route.path
  is_path = ap (λ (s : Sent). s.path) launches.is

  same_host : IsSame old h
  same_host = (left-cleared old h cleared.same cleared.devices).same

  pub start-next : InTime old → ((before : List Outstanding) → RecallsSent h.flight before → is_taken (live h.flight.rest h.clock before) sent.tag ≡ false)
      → All (λ o. is_due old.clock o ≡ false) (sent_of (commands log)) → IsNext old (commands log) sent
  start-next time free none =
      let flight = ap (λ (g : Host). g.flight) cleared.same in
      let clock = ap (λ (g : Host). g.clock) cleared.same in
      let c = started in
      let start : IsStart old (commands log) (record { ticket = t; tag = sent.tag; path = launches.route.path; again = false }) = record {
        nothing_due = none;
        room = has-room old log m time cleared.room;
        command = c.0;
        there = c.1.there;
        ticket = c.1.ticket;
        clear = c.1.clear.is.clear;
        lowest = c.1.clear.first;
        free = rw (← m.rest, ← flight, ← clock) (free (sent_of (commands log)) (rw flight m.sent));
      } in
      rw launches.is start

  module _ (m_h : Matches log h) where
    has : HasPaths h.ports (path_log log launches.command.device.0) launches.device
    has = has-paths h log launches.command.device.0 launches.device m_h launches.held

    pub start-frame : IsFrameOf old (commands log) sent frame
    start-frame =
        let p = launches.command in
        let c = started in
        let bytes = route-spelled h p.op p.device
        (path_log log p.device.0) launches.device None launches.route sent.tag frame has launches.held launches.routed launches.bytes in
        record {
          command = c.0;
          there = c.1.there;
          ticket = c.1.ticket ∙ sym is_ticket;
          bytes = rw (c.1.pending.op, c.1.pending.device, is_path) (sym (spelled-same old h p.op p.device launches.route.path sent.tag same_host) ∙ bytes);
        }

    pub start-path : IsOnNextPath old log sent
    start-path =
        let n : ℕ = launches.command.device.0 in
        let c = started in
        let next = route-next h n (path_log log n) launches.device None launches.route has launches.held launches.routed in
        record {
          command = c.0;
          there = c.1.there;
          ticket = c.1.ticket ∙ sym is_ticket;
          next = rw (c.1.fresh, c.1.pending.device, is_path) (next ∙ ap (λ (k : ℕ). next_of k (path_log log n)) (paths-same old h n same_host));
        }

    pub start-sends : InTime h → Matches (Sends sent.ticket sent.tag sent.path ∷ log) new
    start-sends time =
        let p = launches.command in
        let cs = commands log in
        let path = launches.route.path in
        let ts = timeouts_on log path in
        let c = started.0 in
        let is = started.1 in
        let timeout : launches.route.timeout.0 ≡ ts c.device.0 =
        route-timeout h.ports (path_log log p.device.0) launches.device None launches.route has launches.routed
        ∙ ap (λ (d : DeviceNo). ts d.0) (sym is.pending.device) in
        let recalls = rw timeout at launches.recalls in
        let more = rw is.ticket at (sent-started 0 c sent.tag (record { 0 = h.clock }) path ts cs m.tickets is.there is.fresh is.pending.waits) in
        let recalled : RecallsSent new.flight (sent_of (map (at_ticket t (after_send sent.tag (record { 0 = h.clock }) path ts)) cs)) =
        λ test. recalls (sent_of cs) m_h.sent test
        ∙ same-filter (λ c. not (is_over new.flight.rest new.flight.latest c))
        (launched t sent.tag (record { 0 = h.clock }) path (record { 0 = wait_of (ts c.device.0) 1 }) ∷ sent_of cs)
        (sent_of (map (at_ticket t (after_send sent.tag (record { 0 = h.clock }) path ts)) cs)) more test in
        let send : IsSend log h new t sent None new.flight p c = record {
          pending = is.pending;
          ticket = is.ticket;
          named = is_ticket;
          before = ap path_before is.fresh;
          rest = ap (λ (f : FlightTable). f.rest) launches.flight;
          room = ap (λ (f : FlightTable). f.room) launches.flight;
          dead = ap (λ (f : FlightTable). f.dead) launches.flight;
          recalled = rw is_path recalled;
          after = rw is_path launches.after;
        } in
        matches-send log h new t sent None new.flight p c m_h time.devices send

pub start-next-all : (o : Option Sent) (old h new : Host) (t : Ticket) (at : ℕ) (frame : List ℕ) → InTime old → IsCleared old h t at
    → IfSome o (λ sent. Launches h t at sent frame new)
    → IfSome o (λ sent. (before : List Outstanding) → RecallsSent h.flight before → is_taken (live h.flight.rest h.clock before) sent.tag ≡ false)
    → IfSome o (λ sent. (log : List Event) → Matches log old → All (λ e. is_due old.clock e ≡ false) (sent_of (commands log)) → IsNext old (commands log) sent)
start-next-all None old h new t at frame time cleared launches free = tt
start-next-all (Some sent) old h new t at frame time cleared launches free = λ log m none. start-next m cleared launches time free none
