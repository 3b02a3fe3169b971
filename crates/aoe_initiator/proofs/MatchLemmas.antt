-- What a host keeps matches its log after each step.
use Rattle.std.proofs.Common.{ℕ, ◌≡◌, ◌+◌, ◌<◌, ◌≤◌, cond, not, max, Bool, true, false, List, [], ◌∷◌, ◌++◌, length, map, get_or, Option, Some, None, inl, inr, refl, sym, ap, subst, ◌∙◌, arith, nat_eq}
use Rattle.std.specs.Prelude.{option_map, slice_get, All, Contains, IsSome}
use Rattle.std.specs.List.{cons_option, find, remove}
use Rattle.std.proofs.lemmas.Bool.{and_parts, eqb-true, ne_eqb, not-true}
use Rattle.std.proofs.lemmas.List.{length-append, length-map, map-append}
use Rattle.std.proofs.lemmas.List.Elements.{All-contains, All-head, All-map, All-push, All-tail, All-weaker}
use Rattle.std.proofs.lemmas.Option.{get_or_from_slice_get, slice_get-map}
use Rattle.aoe_base.specs.declared.counted.DeviceNo.{DeviceNo}
use Rattle.aoe_base.specs.declared.counted.Millis.{Millis}
use Rattle.aoe_base.specs.declared.counted.PathNo.{PathNo}
use Rattle.aoe_base.specs.declared.counted.Ticket.{Ticket}
use Rattle.aoe_hold.specs.Commands.{unsent}
use Rattle.aoe_hold.specs.HoldTable.{new_command, no_commands as nothing_entered}
use Rattle.aoe_flight.specs.declared.outstanding.Flying.{Flying}
use Rattle.aoe_flight.specs.declared.outstanding.Outstanding.{Outstanding}
use Rattle.aoe_flight.specs.FlightTable.{after_change, FlightTable, Recalls as RecallsSent}
use Rattle.aoe_flight.specs.Outstanding.{after_finish, flies_as}
use Rattle.aoe_flight.proofs.RecallLemmas.{flying-recalled, recalls-change}
use Rattle.aoe_paths.specs.PathTable.{new_paths}
use Rattle.aoe_initiator.specs.declared.device.Device.{Device}
use Rattle.aoe_initiator.specs.declared.op.Op.{Op}
use Rattle.aoe_initiator.specs.declared.outcome.Done.{Done}
use Rattle.aoe_initiator.specs.declared.outcome.Outcome.{Outcome}
use Rattle.aoe_initiator.specs.declared.pending.Pending.{Pending}
use Rattle.aoe_initiator.specs.declared.step.Sent.{Sent}
use Rattle.aoe_initiator.specs.Devices.{change_at, device_at, device_finished, device_sent}
use Rattle.aoe_initiator.specs.Host.{unfinished, waiting_of, with_device, Closes, Host, IsSame, Matches, RecallAll, Waiting}
use Rattle.aoe_initiator.specs.HostLog.{after_end, after_send, at_ticket, clock, commands, entered_at, is_at, outstanding, sent_of, submitted, with_ticket, Event, HostCommand, Sending, stage}
use Rattle.aoe_initiator.specs.HostLog.Event.{Advances, Ends, Sends, Submits}
use Rattle.aoe_initiator.specs.Op.{kind_of, span_of}
use Rattle.aoe_initiator.proofs.DeviceLemmas.{device_entered, length-change_at, recall-at, recall-ended, recall-entered, recall-sent}
use Rattle.aoe_initiator.proofs.ListLemmas.{get-within, remove-map, Contains-cons, Contains-cons_cases, Contains-get, Contains-map}
use Rattle.aoe_initiator.proofs.PathLemmas.{arrival_on, found-one, have-at, have-attached, have-ended, have-kept, have-sent, path_before, timeouts_on, HaveAll}
use Rattle.aoe_initiator.proofs.LogLemmas.{ascends-kept, ascends-push, end-keeps, kept-device, kept-ticket, only, send-keeps, sent-ended, sent-submitted, unfinished-ended, unfinished-from, unfinished-sent, unfinished-submitted, Keeps, Only}

-- ---- commands of a log in the tables

-- a pending command is one without an outcome
pub record IsPending (cs : List HostCommand) (p : Pending) (c : HostCommand) : Type 0 where
  pub there : Contains cs c
  pub waits : c.done ≡ false
  pub ticket : c.ticket ≡ p.ticket
  pub device : c.device ≡ p.device
  pub op : c.op ≡ p.op

pub pending-command : (cs : List HostCommand) (pending : List Pending) (at : ℕ) (p : Pending) → waiting_of pending ≡ unfinished cs
    → slice_get pending at ≡ Some p → (c : HostCommand) × IsPending cs p c
pending-command cs pending at p same there =
    let entry : Waiting = record { ticket = p.ticket; device = p.device; op = p.op } in
    let inside : Contains (unfinished cs) entry =
    rw (← same) (Contains-map (λ (q : Pending). record { ticket = q.ticket; device = q.device; op = q.op }) pending p (Contains-get pending at p there)) in
    let found = unfinished-from cs entry inside in (
      found.0,
      record {
        there = found.1;
        waits = found.2;
        ticket = ap (λ (w : Waiting). w.ticket) (sym found.3);
        device = ap (λ (w : Waiting). w.device) (sym found.3);
        op = ap (λ (w : Waiting). w.op) (sym found.3);
      },
    )

-- a command that was sent is one of the log
pub record IsSentOf (cs : List HostCommand) (o : Outstanding) (c : HostCommand) : Type 0 where
  pub there : Contains cs c
  pub s : Sending
  pub sends : c.sends ≡ Some s
  pub is : o ≡ outstanding c s

pub sent-from : (cs : List HostCommand) (o : Outstanding) → Contains (sent_of cs) o → (c : HostCommand) × IsSentOf cs o c
sent-from [] o there = absurd (omega (arith, there.1))
sent-from (x ∷ cs) o there = at x.sends refl there (sent-from cs o)
  where
    at : (sends : Option Sending) → x.sends ≡ sends → Contains (cons_option (option_map (outstanding x) sends) (sent_of cs)) o
        → (Contains (sent_of cs) o → (c : HostCommand) × IsSentOf cs o c)
        → (c : HostCommand) × IsSentOf (x ∷ cs) o c
    at None is inside rest =
        let found = rest inside in
        (found.0, record { there = Contains-cons x found.0 cs found.1.there; s = found.1.s; sends = found.1.sends; is = found.1.is })
    at (Some s) is inside rest = elim (Contains-cons_cases (outstanding x s) o (sent_of cs) inside) [
      | inl same ↦ (x, record { there = (0, omega arith, refl); s = s; sends = is; is = sym same })
      | inr behind ↦
          let found = rest behind in
          (found.0, record { there = Contains-cons x found.0 cs found.1.there; s = found.1.s; sends = found.1.sends; is = found.1.is })
    ]

pub sent-there : (cs : List HostCommand) (c : HostCommand) (s : Sending) → Contains cs c → c.sends ≡ Some s → Contains (sent_of cs) (outstanding c s)
sent-there [] c s there sends = absurd (omega (arith, there.1))
sent-there (x ∷ cs) c s there sends = elim (Contains-cons_cases x c cs there) [
  | inl same ↦
      let here : x.sends ≡ Some s = ap (λ (e : HostCommand). e.sends) same ∙ sends in
      rw here (0, omega arith, ap (λ (e : HostCommand). outstanding e s) same)
  | inr behind ↦ at x.sends (sent-there cs c s behind sends)
]
  where
    at : (o : Option Sending) → Contains (sent_of cs) (outstanding c s) → Contains (cons_option (option_map (outstanding x) o) (sent_of cs)) (outstanding c s)
    at None rest = rest
    at (Some t) rest = Contains-cons (outstanding x t) (outstanding c s) (sent_of cs) rest

-- two commands with one ticket are one
pub one-command : (cs : List HostCommand) (a b : HostCommand) (n : ℕ) → Only a cs → Contains cs b → b.ticket.0 ≡ n → a.ticket.0 ≡ n → b ≡ a
one-command cs a b n alone there is_b is_a = All-contains (λ x. x.ticket.0 ≡ a.ticket.0 → x ≡ a) cs b alone there (is_b ∙ sym is_a)

-- the flying command with a ticket, as the tables know it
pub record IsFlying (cs : List HostCommand) (ticket : Ticket) (f : Flying) (c : HostCommand) : Type 0 where
  pub there : Contains cs c
  pub s : Sending
  pub sends : c.sends ≡ Some s
  pub waits : c.done ≡ false
  pub same : c.ticket.0 ≡ ticket.0
  pub flying : f ≡ (outstanding c s).flying

pub flying-command : (table : FlightTable) (cs : List HostCommand) (ticket : Ticket) (f : Flying) → RecallsSent table (sent_of cs)
    → option_map (λ c. c.flying) (find (flies_as ticket.0) table.commands) ≡ Some f → (c : HostCommand) × IsFlying cs ticket f c
flying-command table cs ticket f recalls is =
    let found = flying-recalled (flies_as ticket.0) table (find (flies_as ticket.0) table.commands) f refl is (sent_of cs) recalls in
    let o = found.0 in
    let from = sent-from cs o found.1 in
    let c = from.0 in
    let parts = and_parts (not o.finished) (nat_eq o.ticket.0 ticket.0) found.2 in (
      c,
      record {
        there = from.1.there;
        s = from.1.s;
        sends = from.1.sends;
        waits = ap (λ (e : Outstanding). e.finished) (sym from.1.is) ∙ not-true o.finished parts.0;
        same = ap (λ (e : Outstanding). e.ticket.0) (sym from.1.is) ∙ eqb-true o.ticket.0 ticket.0 parts.1;
        flying = sym found.3 ∙ ap (λ (e : Outstanding). e.flying) from.1.is;
      },
    )

-- ---- an end

kept-all : (P : HostCommand → Type 0) (t : Ticket) (change : HostCommand → HostCommand) (cs : List HostCommand)
    → ((c : HostCommand) → P c → P (at_ticket t change c)) → All P cs → All P (map (at_ticket t change) cs)
kept-all P t change cs keeps all = All-map P (at_ticket t change) cs (All-weaker P (λ c. P (at_ticket t change c)) keeps cs all)

kept-last : (t : Ticket) (change : HostCommand → HostCommand) (cs : List HostCommand) (last : ℕ) → Keeps change → All (λ c. c.ticket.0 ≤ last) cs
    → All (λ c. c.ticket.0 ≤ last) (map (at_ticket t change) cs)
kept-last t change cs last keeps all =
    kept-all (λ c. c.ticket.0 ≤ last) t change cs (λ c below. omega (arith, below, ap (λ (u : Ticket). u.0) (kept-ticket t change c keeps))) all

kept-attached : (t : Ticket) (change : HostCommand → HostCommand) (cs : List HostCommand) (n m : ℕ) → m ≡ n → Keeps change → All (λ c. c.device.0 < n) cs
    → All (λ c. c.device.0 < m) (map (at_ticket t change) cs)
kept-attached t change cs n m same keeps all =
    kept-all (λ c. c.device.0 < m) t change cs (λ c below. omega (arith, below, ap (λ (u : DeviceNo). u.0) (kept-device t change c keeps)))
    (All-weaker (λ c. c.device.0 < n) (λ c. c.device.0 < m) (λ c below. omega (arith, below, same)) cs all)

some-of : (o : Option Sending) (s : Sending) → o ≡ Some s → IsSome o
some-of None s is = absurd cc
some-of (Some t) s is = refl

pub matches-ended : (log : List Event) (host new : Host) (at : ℕ) (path : Option PathNo) (outcome : Outcome) (s : Sending) → Matches log host
    → (closes : Closes host at (arrival_on host.clock path (Some s)) outcome new)
    → ((c : HostCommand) → IsPending (commands log) closes.command c → c.sends ≡ Some s) → Matches (Ends closes.command.ticket path ∷ log) new
matches-ended log host new at path outcome s m closes flew =
    let cs = commands log in
    let p = closes.command in
    let found = pending-command cs host.pending at p m.pending closes.there in
    let c = found.0 in
    let alone : Only c cs = only 0 cs c m.tickets found.1.there in
    let ticket_same : c.ticket.0 ≡ p.ticket.0 = ap (λ (t : Ticket). t.0) found.1.ticket in
    let is_c : All (λ x. x.ticket.0 ≡ p.ticket.0 → x ≡ c) cs =
    All-weaker (λ x. x.ticket.0 ≡ c.ticket.0 → x ≡ c) (λ x. x.ticket.0 ≡ p.ticket.0 → x ≡ c) (λ x is same. is (same ∙ sym ticket_same)) cs alone in
    let place : All (λ x. x.ticket.0 ≡ p.ticket.0 → x.device.0 ≡ 0 + p.device.0) cs =
    All-weaker (λ x. x.ticket.0 ≡ p.ticket.0 → x ≡ c) (λ x. x.ticket.0 ≡ p.ticket.0 → x.device.0 ≡ 0 + p.device.0)
    (λ x is same. omega (arith, ap (λ (e : HostCommand). e.device.0) (is same), ap (λ (d : DeviceNo). d.0) found.1.device)) cs is_c in
    let entry : Waiting = record { ticket = p.ticket; device = p.device; op = p.op } in
    let there : slice_get (unfinished cs) at ≡ Some entry =
    ap (λ (l : List Waiting). slice_get l at) (sym m.pending)
    ∙ slice_get-map (λ (q : Pending). record { ticket = q.ticket; device = q.device; op = q.op }) host.pending at
    ∙ ap (option_map (λ (q : Pending). record { ticket = q.ticket; device = q.device; op = q.op })) closes.there in
    let waiting : waiting_of (remove host.pending at) ≡ unfinished (map (at_ticket p.ticket after_end) cs) =
    remove-map (λ (q : Pending). record { ticket = q.ticket; device = q.device; op = q.op }) host.pending at
    ∙ ap (λ (l : List Waiting). remove l at) m.pending
    ∙ unfinished-ended 0 p.ticket cs at entry m.tickets (get-within (unfinished cs) at entry there)
    (ap (λ (w : Waiting). w.ticket.0) (get_or_from_slice_get (unfinished cs) at entry entry there)) in
    let sent : RecallsSent (after_change host.flight p.ticket.0 after_finish host.flight.latest) (sent_of (map (at_ticket p.ticket after_end) cs)) =
    rw (sent-ended p.ticket cs) (recalls-change host.flight _ (sent_of cs) p.ticket.0 after_finish host.flight.latest refl m.sent (omega arith)) in
    let flown : All (λ x. x.done ≡ true → IsSome x.sends) (map (at_ticket p.ticket after_end) cs) =
    All-map (λ x. x.done ≡ true → IsSome x.sends) (at_ticket p.ticket after_end) cs
    (λ k d below. flown_one (get_or cs k d) (m.flew k d below) (is_c k d below) (some-of c.sends s (flew c found.1))) in
    let met : with_ticket p.ticket cs ≡ Some c = found-one 0 cs c p.ticket m.tickets found.1.there ticket_same in
    let D : ℕ → ℕ → Option Sending → Type 0 =
    λ k now o. HaveAll host.ports (Ends p.ticket path ∷ log) (change_at k (device_finished p.ticket (arrival_on now path o)) host.devices) in
    let had : D c.device.0 (clock log) c.sends = have-ended host.ports log c p.ticket path host.devices met m.paths in
    let had_at : D p.device.0 (clock log) c.sends = subst (λ (k : ℕ). D k (clock log) c.sends) (ap (λ (d : DeviceNo). d.0) found.1.device) had in
    let had_then : D p.device.0 host.clock c.sends = subst (λ (n : ℕ). D p.device.0 n c.sends) (sym m.time) had_at in
    let have : D p.device.0 host.clock (Some s) = subst (λ (o : Option Sending). D p.device.0 host.clock o) (flew c found.1) had_then in
    let after : Matches (Ends p.ticket path ∷ log) (record host {
      flight = after_change host.flight p.ticket.0 after_finish host.flight.latest;
      devices = change_at p.device.0 (device_finished p.ticket (arrival_on host.clock path (Some s))) host.devices;
      pending = remove host.pending at;
      waiting = host.waiting ++ record { ticket = p.ticket; outcome = outcome } ∷ [];
    }) = record {
      time = m.time;
      tickets = ascends-kept 0 p.ticket after_end cs end-keeps m.tickets;
      last = kept-last p.ticket after_end cs host.last_ticket end-keeps m.last;
      attached = kept-attached p.ticket after_end cs (length host.devices) _
          (length-change_at p.device.0 (device_finished p.ticket (arrival_on host.clock path (Some s))) host.devices) end-keeps m.attached;
      flew = flown;
      pending = waiting;
      rest = m.rest;
      room = m.room;
      dead = m.dead;
      sent = sent;
      entered = recall-ended host.life.requests.0 0 p.device.0 p.ticket (arrival_on host.clock path (Some s)) cs host.devices place m.entered;
      paths = have;
    } in
    rw closes.after after
  where
    flown_one : (x : HostCommand) → (x.done ≡ true → IsSome x.sends)
        → (x.ticket.0 ≡ closes.command.ticket.0 → x ≡ (pending-command (commands log) host.pending at closes.command m.pending closes.there).0)
        → IsSome (pending-command (commands log) host.pending at closes.command m.pending closes.there).0.sends
        → (at_ticket closes.command.ticket after_end x).done ≡ true → IsSome (at_ticket closes.command.ticket after_end x).sends
    flown_one x before is_c sent = by_ticket (nat_eq x.ticket.0 closes.command.ticket.0) refl
      where
        by_ticket : (b : Bool) → nat_eq x.ticket.0 closes.command.ticket.0 ≡ b → (cond b (after_end x) x).done ≡ true → IsSome (cond b (after_end x) x).sends
        by_ticket true same done =
            rw (is_c (eqb-true x.ticket.0 closes.command.ticket.0 same)) sent
        by_ticket false other done = before done

-- ---- a send

matches-sent : (log : List Event) (host : Host) (c : HostCommand) (p : Pending) (tag : ℕ) (path : PathNo) (flight : FlightTable) → Matches log host
    → IsPending (commands log) p c → All (λ d. d.holds.latest ≤ host.clock) host.devices
    → flight.rest ≡ host.flight.rest → flight.room ≡ host.flight.room → flight.dead ≡ host.flight.dead
    → RecallsSent flight (sent_of (map (at_ticket p.ticket (after_send tag (record { 0 = host.clock }) path (timeouts_on log path))) (commands log)))
    → Matches (Sends p.ticket tag path ∷ log)
    (record host { flight = flight; devices = change_at p.device.0 (device_sent p.ticket (record { 0 = host.clock }) (path_before c.sends) path) host.devices })
matches-sent log host c p tag path flight m is times rest room dead sent =
    let cs = commands log in
    let now : Millis = record { 0 = host.clock } in
    let ts = timeouts_on log path in
    let alone : Only c cs = only 0 cs c m.tickets is.there in
    let ticket_same : c.ticket.0 ≡ p.ticket.0 = ap (λ (t : Ticket). t.0) is.ticket in
    let is_c : All (λ x. x.ticket.0 ≡ p.ticket.0 → x ≡ c) cs =
    All-weaker (λ x. x.ticket.0 ≡ c.ticket.0 → x ≡ c) (λ x. x.ticket.0 ≡ p.ticket.0 → x ≡ c) (λ x only_c same. only_c (same ∙ sym ticket_same)) cs alone in
    let place : All (λ x. x.ticket.0 ≡ p.ticket.0 → x.device.0 ≡ 0 + p.device.0) cs =
    All-weaker (λ x. x.ticket.0 ≡ p.ticket.0 → x ≡ c) (λ x. x.ticket.0 ≡ p.ticket.0 → x.device.0 ≡ 0 + p.device.0)
    (λ x only_c same. omega (arith, ap (λ (e : HostCommand). e.device.0) (only_c same), ap (λ (d : DeviceNo). d.0) is.device)) cs is_c in
    let waits : All (λ x. x.ticket.0 ≡ p.ticket.0 → x.done ≡ false) cs =
    All-weaker (λ x. x.ticket.0 ≡ p.ticket.0 → x ≡ c) (λ x. x.ticket.0 ≡ p.ticket.0 → x.done ≡ false)
    (λ x only_c same. ap (λ (e : HostCommand). e.done) (only_c same) ∙ is.waits) cs is_c in
    let flown : All (λ x. x.done ≡ true → IsSome x.sends) (map (at_ticket p.ticket (after_send tag now path ts)) cs) =
    kept-all (λ x. x.done ≡ true → IsSome x.sends) p.ticket (after_send tag now path ts) cs (λ x before. flown_one x before) m.flew in
    let met : with_ticket p.ticket cs ≡ Some c = found-one 0 cs c p.ticket m.tickets is.there ticket_same in
    let D : ℕ → Type 0 =
    λ k. HaveAll host.ports (Sends p.ticket tag path ∷ log) (change_at k (device_sent p.ticket now (path_before c.sends) path) host.devices) in
    let have : D p.device.0 = subst D (ap (λ (d : DeviceNo). d.0) is.device) (have-sent host.ports log c p.ticket tag now path host.devices met m.paths) in
    record {
      time = m.time;
      tickets = ascends-kept 0 p.ticket (after_send tag (record { 0 = clock log }) path ts) cs (send-keeps tag (record { 0 = clock log }) path ts) m.tickets;
      last = kept-last p.ticket (after_send tag (record { 0 = clock log }) path ts) cs host.last_ticket
          (send-keeps tag (record { 0 = clock log }) path ts) m.last;
      attached = kept-attached p.ticket (after_send tag (record { 0 = clock log }) path ts) cs (length host.devices) _
          (length-change_at p.device.0 (device_sent p.ticket now (path_before c.sends) path) host.devices)
          (send-keeps tag (record { 0 = clock log }) path ts) m.attached;
      flew = rw (← m.time) flown;
      pending = m.pending ∙ sym (unfinished-sent p.ticket tag (record { 0 = clock log }) path ts cs);
      rest = rest ∙ m.rest;
      room = room ∙ m.room;
      dead = dead ∙ m.dead;
      sent = rw (← m.time) sent;
      entered = rw (← m.time) (recall-sent host.life.requests.0 0 p.device.0 p.ticket tag now path ts
          (path_before c.sends) cs host.devices place waits times m.entered);
      paths = have;
    }
  where
    flown_one : (x : HostCommand) → (x.done ≡ true → IsSome x.sends)
        → (at_ticket p.ticket (after_send tag (record { 0 = host.clock }) path (timeouts_on log path)) x).done ≡ true
        → IsSome (at_ticket p.ticket (after_send tag (record { 0 = host.clock }) path (timeouts_on log path)) x).sends
    flown_one x before = by_ticket (nat_eq x.ticket.0 p.ticket.0)
      where
        by_ticket : (b : Bool) → (cond b (after_send tag (record { 0 = host.clock }) path (timeouts_on log path) x) x).done ≡ true
            → IsSome (cond b (after_send tag (record { 0 = host.clock }) path (timeouts_on log path) x) x).sends
        by_ticket true done = refl
        by_ticket false done = before done

-- a frame of the command with the ticket goes out: `last` is the path of the one before it
pub record IsSend (log : List Event) (host new : Host) (t : Ticket) (sent : Sent) (last : Option PathNo) (flight : FlightTable) (p : Pending)
    (c : HostCommand) : Type 0 where
  pub pending : IsPending (commands log) p c
  pub ticket : c.ticket ≡ t
  pub named : sent.ticket ≡ t
  pub before : path_before c.sends ≡ last
  pub rest : flight.rest ≡ host.flight.rest
  pub room : flight.room ≡ host.flight.room
  pub dead : flight.dead ≡ host.flight.dead
  pub recalled : RecallsSent flight
      (sent_of (map (at_ticket t (after_send sent.tag (record { 0 = host.clock }) sent.path (timeouts_on log sent.path))) (commands log)))
  pub after : new ≡ record host {
    flight = flight;
    devices = change_at p.device.0 (device_sent t (record { 0 = host.clock }) last sent.path) host.devices;
  }

-- what first sends and repeats share
pub matches-send : (log : List Event) (host new : Host) (t : Ticket) (s : Sent) (last : Option PathNo) (flight : FlightTable) (p : Pending) (c : HostCommand)
    → Matches log host → All (λ d. d.holds.latest ≤ host.clock) host.devices → IsSend log host new t s last flight p c
    → Matches (Sends s.ticket s.tag s.path ∷ log) new
matches-send log host new t s last flight p c m times is =
    let p_is : p.ticket ≡ t = sym is.pending.ticket ∙ is.ticket in
    let whole = matches-sent log host c p s.tag s.path flight m is.pending times is.rest is.room is.dead (rw p_is is.recalled) in
    let T : Ticket → Option PathNo → Type 0 =
    λ u o. Matches (Sends u s.tag s.path ∷ log)
    (record host { flight = flight; devices = change_at p.device.0 (device_sent u (record { 0 = host.clock }) o s.path) host.devices }) in
    let at_t : T t last = subst (λ (u : Ticket). T u last) p_is (subst (λ (o : Option PathNo). T p.ticket o) is.before whole) in
    rw is.named (rw (← is.after) at at_t)

-- ---- a submission, an attachment, time, and an outcome that is taken

pub matches-submitted : (log : List Event) (host new : Host) (t : Ticket) (device : DeviceNo) (op : Op) (room : List ℕ) → Matches log host
    → t.0 ≡ host.last_ticket + 1 → device.0 < length host.devices
    → new ≡ record host {
      last_ticket = t.0;
      devices = change_at device.0 (device_entered (new_command t (kind_of op) (span_of op))) host.devices;
      pending = host.pending ++ record { ticket = t; device = device; op = op; room = room } ∷ [];
    } → Matches (Submits t device op ∷ log) new
matches-submitted log host new t device op room m is inside same =
    let cs = commands log in
    let c = submitted t device op in
    let below : All (λ x. x.ticket.0 < t.0) cs =
    All-weaker (λ x. x.ticket.0 ≤ host.last_ticket) (λ x. x.ticket.0 < t.0) (λ x le. omega (arith, le, is)) cs m.last in
    let entry : Pending = record { ticket = t; device = device; op = op; room = room } in
    let waiting : waiting_of (host.pending ++ entry ∷ []) ≡ unfinished (cs ++ c ∷ []) =
    map-append (λ (q : Pending). record { ticket = q.ticket; device = q.device; op = q.op }) host.pending (entry ∷ [])
    ∙ ap (λ (l : List Waiting). l ++ record { ticket = t; device = device; op = op } ∷ []) m.pending ∙ sym (unfinished-submitted cs t device op) in
    let devices_same : length (change_at device.0 (device_entered (new_command t (kind_of op) (span_of op))) host.devices) ≡ length host.devices =
    length-change_at device.0 (device_entered (new_command t (kind_of op) (span_of op))) host.devices in
    let after : Matches (Submits t device op ∷ log) (record host {
      last_ticket = t.0;
      devices = change_at device.0 (device_entered (new_command t (kind_of op) (span_of op))) host.devices;
      pending = host.pending ++ entry ∷ [];
    }) = record {
      time = m.time;
      tickets = ascends-push 0 cs c m.tickets (omega (arith, is)) below;
      last = All-push (λ x. x.ticket.0 ≤ t.0) cs c (All-weaker (λ x. x.ticket.0 < t.0) (λ x. x.ticket.0 ≤ t.0) (λ x less. omega (arith, less)) cs below)
          (omega arith);
      attached = All-push (λ x. x.device.0 < length (change_at device.0 (device_entered (new_command t (kind_of op) (span_of op))) host.devices)) cs c
          (All-weaker (λ x. x.device.0 < length host.devices)
          (λ x. x.device.0 < length (change_at device.0 (device_entered (new_command t (kind_of op) (span_of op))) host.devices))
          (λ x less. omega (arith, less, devices_same)) cs m.attached) (omega (arith, inside, devices_same));
      flew = All-push (λ x. x.done ≡ true → IsSome x.sends) cs c m.flew (λ done. absurd cc);
      pending = waiting;
      rest = m.rest;
      room = m.room;
      dead = m.dead;
      sent = rw (sent-submitted cs t device op) m.sent;
      entered = recall-entered host.life.requests.0 0 device.0 cs t device op host.devices (omega arith) m.entered;
      paths = have-kept host.ports log (Submits t device op ∷ log) device.0 (device_entered (new_command t (kind_of op) (span_of op))) host.devices (λ n. refl)
          (λ d. refl) (λ d. refl) m.paths;
    } in
    rw same after

-- a device that was just attached has no command
nothing-at : (cs : List HostCommand) (n : ℕ) → All (λ c. c.device.0 < n) cs → entered_at n cs ≡ []
nothing-at [] n all = refl
nothing-at (c ∷ cs) n all =
    let elsewhere : is_at n c ≡ false = ne_eqb c.device.0 n (λ same. absurd (omega (arith, All-head (λ x. x.device.0 < n) c cs all, same))) in
    rw elsewhere (nothing-at cs n (All-tail (λ x. x.device.0 < n) c cs all))

recall-attached : (life n : ℕ) (cs : List HostCommand) (devices : List Device) (d : Device) → All (λ c. c.device.0 < n + length devices) cs
    → d.holds ≡ nothing_entered life → RecallAll life cs n devices → RecallAll life cs n (devices ++ d ∷ [])
recall-attached life n cs [] d all fresh recalls =
    let none : entered_at n cs ≡ [] =
    nothing-at cs n (All-weaker (λ c. c.device.0 < n + length {A = Device} []) (λ c. c.device.0 < n) (λ c less. omega (arith, less)) cs all) in
    (rw fresh refl, rw (fresh, none) refl, tt)
recall-attached life n cs (x ∷ devices) d all fresh recalls = (
  recalls.0,
  recalls.1,
  recall-attached life (n + 1) cs devices d
      (All-weaker (λ c. c.device.0 < n + length (x ∷ devices)) (λ c. c.device.0 < n + 1 + length devices) (λ c less. omega (arith, less)) cs all) fresh
      recalls.2,
)

pub matches-attached : (log : List Event) (host new : Host) (d : Device) → Matches log host → d.holds ≡ nothing_entered host.life.requests.0
    → d.paths ≡ new_paths host.ports d.about.remotes.items → new ≡ with_device host d → Matches log new
matches-attached log host new d m fresh paths same =
    let cs = commands log in
    let more : length (host.devices ++ d ∷ []) ≡ length host.devices + 1 = length-append host.devices (d ∷ []) in
    let after : Matches log (with_device host d) = record {
      time = m.time;
      tickets = m.tickets;
      last = m.last;
      attached = All-weaker (λ c. c.device.0 < length host.devices) (λ c. c.device.0 < length (host.devices ++ d ∷ []))
          (λ c less. omega (arith, less, more)) cs m.attached;
      flew = m.flew;
      pending = m.pending;
      rest = m.rest;
      room = m.room;
      dead = m.dead;
      sent = m.sent;
      entered = recall-attached host.life.requests.0 0 cs host.devices d
          (All-weaker (λ c. c.device.0 < length host.devices) (λ c. c.device.0 < 0 + length host.devices) (λ c less. omega (arith, less)) cs m.attached) fresh
          m.entered;
      paths = have-attached host.ports log host.devices d m.attached paths m.paths;
    } in
    rw same after

pub matches-advanced : (log : List Event) (host : Host) (now : Millis) (clock_now : ℕ) → clock_now ≡ max host.clock now.0 → Matches log host
    → Matches (Advances now ∷ log) (record host { clock = clock_now })
matches-advanced log host now clock_now is m = record {
  time = is ∙ ap (λ (n : ℕ). max n now.0) m.time;
  tickets = m.tickets;
  last = m.last;
  attached = m.attached;
  flew = m.flew;
  pending = m.pending;
  rest = m.rest;
  room = m.room;
  dead = m.dead;
  sent = m.sent;
  entered = m.entered;
  paths = m.paths;
}

pub matches-taken : (log : List Event) (host : Host) (waiting : List Done) → Matches log host → Matches log (record host { waiting = waiting })
matches-taken log host waiting m = record {
  time = m.time;
  tickets = m.tickets;
  last = m.last;
  attached = m.attached;
  flew = m.flew;
  pending = m.pending;
  rest = m.rest;
  room = m.room;
  dead = m.dead;
  sent = m.sent;
  entered = m.entered;
  paths = m.paths;
}

-- devices and flight at a later time
pub matches-devices : (log : List Event) (host : Host) → Matches log host → All (λ d. d.holds.latest ≤ host.clock) host.devices
    → Matches log (record host { devices = map (device_at host.clock) host.devices })
matches-devices log host m times = record {
  time = m.time;
  tickets = m.tickets;
  last = m.last;
  attached = All-weaker (λ c. c.device.0 < length host.devices) (λ c. c.device.0 < length (map (device_at host.clock) host.devices))
      (λ c less. omega (arith, less, length-map host.devices (device_at host.clock))) (commands log) m.attached;
  flew = m.flew;
  pending = m.pending;
  rest = m.rest;
  room = m.room;
  dead = m.dead;
  sent = m.sent;
  entered = recall-at host.life.requests.0 0 host.clock (commands log) host.devices times m.entered;
  paths = have-at host.ports log host.clock host.devices m.paths;
}

pub matches-cleared : (log : List Event) (host : Host) (devices : List Device) → Matches log host → All (λ d. d.holds.latest ≤ host.clock) host.devices
    → devices ≡ map (device_at host.clock) host.devices → Matches log (record host { devices = devices })
matches-cleared log host devices m times is =
    rw is (matches-devices log host m times)

pub same-then : (a b c : Host) → IsSame a b → IsSame b c → IsSame a c
same-then a b c one two = record {
  ports = two.ports ∙ one.ports;
  life = two.life ∙ one.life;
  room = two.room ∙ one.room;
  dead = two.dead ∙ one.dead;
  devices = two.devices ∙ one.devices;
}

pub stage-unsent : (sends : Option Sending) (done : Bool) → unsent (stage sends done) ≡ true → sends ≡ None
stage-unsent None done is = refl
stage-unsent (Some s) true is = absurd cc
stage-unsent (Some s) false is = absurd cc
