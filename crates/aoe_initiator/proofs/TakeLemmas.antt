-- What ends a command, and what is given up.
use Rattle.std.proofs.Common.{ℕ, ◌≡◌, ◌&&◌, cond, not, min, Bool, true, false, List, [], ◌∷◌, ◌++◌, drop, reverse, Option, Some, None, inl, inr, refl, sym, ap, subst, ◌∙◌, arith, nat_eq, append_assoc}
use mathlib.Core.List.{reverse-cons}
use Rattle.std.specs.Prelude.{option_map, slice_get, Contains, IfSome, IsSome}
use Rattle.std.specs.List.{find}
use Rattle.std.specs.Option.{option_and_then}
use Rattle.std.proofs.lemmas.Bool.{and_parts, cases_Bool, eq-eqb, eqb-true, ne_eqb, not-true}
use Rattle.aoe_base.specs.declared.counted.Millis.{Millis}
use Rattle.aoe_base.specs.declared.counted.PathNo.{PathNo}
use Rattle.aoe_base.specs.declared.counted.Ticket.{Ticket}
use Rattle.aoe_frame.specs.declared.header.Header.{Header}
use Rattle.aoe_frame.specs.Header.{head}
use Rattle.aoe_flight.specs.declared.outstanding.Flying.{Flying}
use Rattle.aoe_flight.specs.declared.outstanding.Outstanding.{Outstanding}
use Rattle.aoe_flight.specs.FlightTable.{FlightTable, Recalls}
use Rattle.aoe_flight.specs.Outstanding.{flies_as, is_expired, lower, IsFirst}
use Rattle.aoe_initiator.specs.declared.device.Arrival.{Arrival}
use Rattle.aoe_initiator.specs.declared.outcome.Done.{Done}
use Rattle.aoe_initiator.specs.declared.outcome.Outcome.{Outcome}
use Rattle.aoe_initiator.specs.declared.outcome.Outcome.TheVariants.{GaveUp}
use Rattle.aoe_initiator.specs.declared.pending.Pending.{Pending}
use Rattle.aoe_initiator.specs.declared.response.Answer.{Answer}
use Rattle.aoe_initiator.specs.declared.step.Taken.TheVariants.{Finished}
use Rattle.aoe_initiator.specs.Devices.{device_finished, trip_from}
use Rattle.aoe_initiator.specs.Host.{Closes, Host, IsSame, Matches}
use Rattle.aoe_initiator.specs.HostLaw.{answer_to, ended, given_up, has_tag, is_answered, is_from, is_response_to, CameOn, GaveUpInTurn, Takes}
use Rattle.aoe_initiator.specs.HostLog.{commands, outstanding, sent_of, trip_of, Event, HostCommand, Sending}
use Rattle.aoe_initiator.specs.HostLog.Event.{Advances, Ends}
use Rattle.aoe_initiator.specs.Response.{answer, outcome_of}
use Rattle.aoe_initiator.specs.Steps.{place}
use Rattle.aoe_initiator.proofs.DeviceLemmas.{about-change_at}
use Rattle.aoe_initiator.proofs.ListLemmas.{placed}
use Rattle.aoe_initiator.proofs.LogLemmas.{only}
use Rattle.aoe_initiator.proofs.MatchLemmas.{flying-command, matches-ended, one-command, sent-from, IsPending}
use Rattle.aoe_initiator.proofs.ClearLemmas.{find-flies, is-placed}
use Rattle.aoe_initiator.proofs.RepeatLemmas.{sent-one}

-- ---- a response

-- a command that is answered flies
record IsAloft (c : HostCommand) : Type 0 where
  s : Sending
  sends : c.sends ≡ Some s

aloft : (host : Host) (c : HostCommand) (frame : List ℕ) (a : Answer) → answer_to host c frame ≡ Some a → IsAloft c
aloft host c frame a is = by_header (head frame) is
  where
    by_sends : (tag : ℕ) (o : Option Sending) → c.sends ≡ o → (not c.done && has_tag tag o) ≡ true → IsAloft c
    by_sends tag None none flies = let impossible = (and_parts (not c.done) false flies).1 in absurd cc
    by_sends tag (Some s) sends flies = record { s = s; sends = sends }

    by_answered : (h : Header) (b : Bool) → is_answered host c h ≡ b → cond b (answer c.op h (drop 24 frame)) None ≡ Some a → IsAloft c
    by_answered h true yes_answered given =
        let outer = and_parts (is_response_to host h && (not c.done && has_tag h.tag c.sends))
        (is_from (slice_get host.devices c.device.0) c.op h) yes_answered in
        let inner = and_parts (is_response_to host h) (not c.done && has_tag h.tag c.sends) outer.0 in
        by_sends h.tag c.sends refl inner.1
    by_answered h false not_answered given = absurd cc

    by_header : (o : Option Header) → option_and_then (λ (h : Header). cond (is_answered host c h) (answer c.op h (drop 24 frame)) None) o ≡ Some a → IsAloft c
    by_header None given = absurd cc
    by_header (Some h) given = by_answered h (is_answered host c h) refl given

-- the round trip, by what is known of the flying command
trip-same : (now : ℕ) (f : Flying) (s : Sending) → f.first ≡ s.first → f.sends ≡ min s.count 32 → trip_from now f ≡ trip_of now (Some s)
trip-same now f s first sends = elim (cases_Bool (nat_eq s.count 1)) [
  | inl once ↦
      let one : nat_eq f.sends 1 ≡ true = eq-eqb f.sends 1 (omega (arith, sends, eqb-true s.count 1 once)) in
      rw (one, once, first) refl
  | inr more ↦
      let other : nat_eq f.sends 1 ≡ false =
      ne_eqb f.sends 1 (λ is. (let same : nat_eq s.count 1 ≡ true = eq-eqb s.count 1 (omega (arith, sends, is)) in absurd cc)) in
      rw (other, more) refl
]

-- the answered command ends with the round trip that the log has
takes-closed : (host new : Host) (log : List Event) (frame : List ℕ) (at : ℕ) (path : PathNo) (s : Sending) (a : Answer) (ticket : Ticket) → Matches log host
    → Closes host at (Some (record { path = path; trip = trip_of host.clock (Some s) })) (outcome_of a (drop 24 frame)) new
    → IfSome (slice_get host.pending at) (λ p. ticket ≡ p.ticket)
    → (c : HostCommand) → c.sends ≡ Some s → Contains (commands log) c → IfSome (slice_get host.pending at) (λ p. p.ticket ≡ c.ticket)
    → answer_to host c frame ≡ Some a → CameOn host c frame path → Takes host frame log (Finished ticket) new
takes-closed host new log frame at path s a ticket m closes ticket_is c sends there same answered came =
    let p = closes.command in
    let P : Option Pending → Type 0 = λ o. IfSome o (λ q. ticket ≡ q.ticket) in
    let Q : Option Pending → Type 0 = λ o. IfSome o (λ q. q.ticket ≡ c.ticket) in
    let mine : ticket ≡ p.ticket = subst P closes.there ticket_is in
    let of_c : p.ticket ≡ c.ticket = subst Q closes.there same in
    let flew : (d : HostCommand) → IsPending (commands log) p d → d.sends ≡ Some s = λ d pending.
    let is_c : d ≡ c =
    one-command (commands log) c d c.ticket.0 (only 0 (commands log) c m.tickets there) pending.there (ap (λ (t : Ticket). t.0) (pending.ticket ∙ of_c)) refl in
    ap (λ (e : HostCommand). e.sends) is_c ∙ sends in
    let W : Ticket → Type 0 = λ t. new.waiting ≡ host.waiting ++ record { ticket = t; outcome = outcome_of a (drop 24 frame) } ∷ [] in
    let waiting : new.waiting ≡ host.waiting ++ record { ticket = p.ticket; outcome = outcome_of a (drop 24 frame) } ∷ [] =
    ap (λ (h : Host). h.waiting) closes.after in
    let M : Ticket → Type 0 = λ t. Matches (Ends t (Some path) ∷ log) new in (
      c,
      a,
      path,
      there,
      sym (mine ∙ of_c),
      answered,
      came,
      subst W (sym mine) waiting,
      subst M (sym mine)
          (matches-ended log host new at (Some path) (outcome_of a (drop 24 frame)) s m closes flew),
    )

pub takes-finished : (host new : Host) (log : List Event) (frame : List ℕ) (at : ℕ) (t : Ticket) (path : PathNo) (f : Flying) (a : Answer) (ticket : Ticket)
    → Matches log host → place t host.pending ≡ Some at
    → option_map (λ c. c.flying) (find (flies_as t.0) host.flight.commands) ≡ Some f
    → Closes host at (Some (record { path = path; trip = trip_from host.clock f })) (outcome_of a (drop 24 frame)) new
    → IfSome (slice_get host.pending at) (λ p. ticket ≡ p.ticket)
    → ((c : HostCommand) × Contains (commands log) c × IfSome (slice_get host.pending at) (λ p. p.ticket ≡ c.ticket) × (answer_to host c frame ≡ Some a)
    × CameOn host c frame path) → Takes host frame log (Finished ticket) new
takes-finished host new log frame at t path f a ticket m placed_at flies closes ticket_is found =
    let c = found.0 in
    let p = closes.command in
    let Q : Option Pending → Type 0 = λ o. IfSome o (λ q. q.ticket ≡ c.ticket) in
    let of_p : p.ticket ≡ c.ticket = subst Q closes.there found.2 in
    let up = aloft host c frame a found.3 in
    let flying = flying-command host.flight (commands log) t f m.sent flies in
    let is_ticket : p.ticket.0 ≡ t.0 = eqb-true p.ticket.0 t.0 (placed (λ (q : Pending). nat_eq q.ticket.0 t.0) host.pending at p placed_at closes.there) in
    let is_c : flying.0 ≡ c = one-command (commands log) c flying.0 c.ticket.0 (only 0 (commands log) c m.tickets found.1) flying.1.there
    (flying.1.same ∙ sym is_ticket ∙ ap (λ (u : Ticket). u.0) of_p) refl in
    let some : Some flying.1.s ≡ Some up.s = sym flying.1.sends ∙ ap (λ (e : HostCommand). e.sends) is_c ∙ up.sends in
    let sending : flying.1.s ≡ up.s = cc in
    let first : f.first ≡ up.s.first = ap (λ (g : Flying). g.first) flying.1.flying ∙ ap (λ (s : Sending). s.first) sending in
    let sends : f.sends ≡ min up.s.count 32 = ap (λ (g : Flying). g.sends) flying.1.flying ∙ ap (λ (s : Sending). min s.count 32) sending in
    let C : Option Millis → Type 0 = λ trip. Closes host at (Some (record { path = path; trip = trip })) (outcome_of a (drop 24 frame)) new in
    takes-closed host new log frame at path up.s a ticket m
    (subst C (trip-same host.clock f up.s first sends) closes) ticket_is c up.sends found.1 found.2 found.3 found.4

-- what the end of a command leaves
pub record IsLeftBut (old new : Host) : Type 0 where
  pub same : IsSame old new
  pub clock : new.clock ≡ old.clock
  pub last : new.last_ticket ≡ old.last_ticket

pub left-closed : (old new : Host) (at : ℕ) (came : Option Arrival) (outcome : Outcome) → Closes old at came outcome new → IsLeftBut old new
left-closed old new at came outcome closes =
    let P : Host → Type 0 = λ h. IsLeftBut old h in
    subst P (sym closes.after) (record {
      same = record {
        ports = refl;
        life = refl;
        room = refl;
        dead = refl;
        devices = about-change_at closes.command.device.0 (device_finished closes.command.ticket came) old.devices (λ d. refl);
      };
      clock = refl;
      last = refl;
    })

-- ---- what is given up

-- an expired command flies
pub expired-flies : (dead now : ℕ) (table : FlightTable) (t : Ticket)
    → ((c : Outstanding) × (c.ticket ≡ t) × IsFirst (is_expired dead now) lower table.commands c) → IsSome (find (flies_as t.0) table.commands)
expired-flies dead now table t found =
    let c = found.0 in
    let parts = and_parts (not c.finished) _ found.2.passes in
    let same : nat_eq c.ticket.0 t.0 ≡ true = eq-eqb c.ticket.0 t.0 (ap (λ (u : Ticket). u.0) found.1) in
    let flies : flies_as t.0 c ≡ true = rw (parts.0, same) refl in
    find-flies (flies_as t.0) table.commands c found.2.there flies

-- it is pending
pub expired-placed : (host : Host) (log : List Event) (t : Ticket) → Matches log host
    → ((sent : List Outstanding) → Recalls host.flight sent
    → (o : Outstanding) × (o.ticket ≡ t) × IsFirst (is_expired host.flight.dead host.clock) lower sent o) → place t host.pending ≡ None → {P : Type 0} → P
expired-placed host log t m first missing =
    let found = first (sent_of (commands log)) m.sent in
    let o = found.0 in
    let from = sent-from (commands log) o found.2.there in
    let parts = and_parts (not o.finished) _ found.2.passes in
    let waits : from.0.done ≡ false = ap (λ (e : Outstanding). e.finished) (sym from.1.is) ∙ not-true o.finished parts.0 in
    let ticket : from.0.ticket.0 ≡ t.0 = ap (λ (e : Outstanding). e.ticket.0) (sym from.1.is) ∙ ap (λ (u : Ticket). u.0) found.1 in
    absurd (is-placed host log t from.0 m from.1.there waits ticket missing)

abbrev pub ended_now : Host → Ticket → Flying → Done
ended_now host t f = record { ticket = t; outcome = GaveUp f.first (record { 0 = host.clock }) }

-- one command more is given up
pub gave-up-once : (host new : Host) (log : List Event) (t : Ticket) (at : ℕ) (f : Flying) → Matches log host → place t host.pending ≡ Some at
    → option_map (λ c. c.flying) (find (flies_as t.0) host.flight.commands) ≡ Some f
    → (closes : Closes host at None (GaveUp f.first (record { 0 = host.clock })) new)
    → ((sent : List Outstanding) → Recalls host.flight sent
    → (o : Outstanding) × (o.ticket ≡ t) × IsFirst (is_expired host.flight.dead host.clock) lower sent o)
    → Matches (Ends closes.command.ticket None ∷ log) new
    × ((o : Outstanding) × IsFirst (is_expired host.dead host.clock) lower (sent_of (commands log)) o
    × (ended_now host closes.command.ticket f ≡ given_up host.clock o))
gave-up-once host new log t at f m found flies closes first =
    let flying = flying-command host.flight (commands log) t f m.sent flies in
    let c = flying.0 in
    let p = closes.command in
    let is_ticket : p.ticket.0 ≡ t.0 = eqb-true p.ticket.0 t.0 (placed (λ (q : Pending). nat_eq q.ticket.0 t.0) host.pending at p found closes.there) in
    let flew : (d : HostCommand) → IsPending (commands log) p d → d.sends ≡ Some flying.1.s = λ d pending.
    let same : d ≡ c = one-command (commands log) c d t.0 (only 0 (commands log) c m.tickets flying.1.there) pending.there
    (ap (λ (u : Ticket). u.0) pending.ticket ∙ is_ticket) flying.1.same in
    ap (λ (e : HostCommand). e.sends) same ∙ flying.1.sends in
    let of_first = first (sent_of (commands log)) m.sent in
    let o = of_first.0 in
    let is : o ≡ outstanding c flying.1.s =
    sent-one host log o c flying.1.s m of_first.2.there flying.1.there flying.1.sends (ap (λ (u : Ticket). u.0) of_first.1 ∙ sym flying.1.same) in
    let ticket : p.ticket ≡ o.ticket = ap (λ (n : ℕ). record { 0 = n }) is_ticket ∙ sym of_first.1 in
    let sent_first : f.first ≡ o.flying.first = ap (λ (g : Flying). g.first) flying.1.flying ∙ ap (λ (e : Outstanding). e.flying.first) (sym is) in (
      matches-ended log host new at None (GaveUp f.first (record { 0 = host.clock })) flying.1.s m closes flew,
      (o, rw (← m.dead) of_first.2, rw (ticket, sent_first) refl),
    )

-- commands that were given up since the clock went on
abbrev pub GaveUpBy : Host → Millis → Host → Type 0
GaveUpBy old now host = (dones : List Done) × (host.waiting ≡ old.waiting ++ reverse dones)
    × ((log : List Event) → Matches log old → GaveUpInTurn old.dead host.clock (Advances now ∷ log) dones × Matches (ended dones (Advances now ∷ log)) host)

pub gave-up-more : (old host new : Host) (now : Millis) (t : Ticket) (at : ℕ) → host.dead ≡ old.dead → GaveUpBy old now host → place t host.pending ≡ Some at
    → ((f : Flying) × (option_map (λ c. c.flying) (find (flies_as t.0) host.flight.commands) ≡ Some f)
    × Closes host at None (GaveUp f.first (record { 0 = host.clock })) new)
    → ((sent : List Outstanding) → Recalls host.flight sent
    → (o : Outstanding) × (o.ticket ≡ t) × IsFirst (is_expired host.flight.dead host.clock) lower sent o) → GaveUpBy old now new
gave-up-more old host new now t at dead_same before found closed first =
    let f = closed.0 in
    let closes = closed.2 in
    let done : Done = ended_now host closes.command.ticket f in
    let dones = before.0 in
    let clock_same : new.clock ≡ host.clock = ap (λ (h : Host). h.clock) closes.after in
    let waiting : new.waiting ≡ host.waiting ++ done ∷ [] = ap (λ (h : Host). h.waiting) closes.after in
    let all : new.waiting ≡ old.waiting ++ reverse (done ∷ dones) =
    waiting ∙ ap (λ (l : List Done). l ++ done ∷ []) before.1 ∙ append_assoc old.waiting (reverse dones) (done ∷ [])
    ∙ ap (λ (l : List Done). old.waiting ++ l) (sym (reverse-cons done dones)) in (
      done ∷ dones,
      all,
      λ log m.
          let earlier = before.2 log m in
          let once_more = gave-up-once host new (ended dones (Advances now ∷ log)) t at f earlier.1 found closed.1 closes first in
          let C : ℕ → Type 0 = λ n. GaveUpInTurn old.dead n (Advances now ∷ log) (done ∷ dones) in
          let D : ℕ → Type 0 = λ n. (o : Outstanding) × IsFirst (is_expired n host.clock) lower (sent_of (commands (ended dones (Advances now ∷ log)))) o
          × (done ≡ given_up host.clock o) in
          (subst C (sym clock_same) (earlier.0, subst D dead_same once_more.1), once_more.0),
    )
