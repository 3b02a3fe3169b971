-- Which commands are clear, and when nothing may be sent.
use Rattle.std.proofs.Common.{ℕ, zero, suc, ◌≡◌, ◌≢◌, ◌+◌, ◌-◌, ◌<◌, ◌≤◌, cond, not, Bool, true, false, List, [], ◌∷◌, length, Option, Some, None, inl, inr, refl, sym, ap, ◌∙◌, arith, nat_eq, nat_le, nat_lt}
use Rattle.std.specs.Prelude.{slice_get, All, Contains, IfNone, IfSome, IsSome}
use Rattle.std.specs.List.{filter, find, list_any}
use Rattle.std.proofs.lemmas.Bool.{false_from_ne_true, and_parts, cases_Bool, eq-eqb, eqb-true, leb-false, leb-true, ltb-false, true≢false}
use Rattle.std.proofs.lemmas.List.Elements.{All-contains, All-weaker, All-contains_itself, Contains-append_cases, Contains-append_left, Contains-append_right}
use Rattle.std.proofs.lemmas.List.Folds.{list_any_at, list_any_none}
use Rattle.aoe_base.specs.declared.counted.Ticket.{Ticket}
use Rattle.aoe_hold.specs.declared.command.Command.{Command}
use Rattle.aoe_hold.specs.Commands.{clear_tickets, is_clear, is_unsent}
use Rattle.aoe_flight.specs.declared.outstanding.Outstanding.{Outstanding}
use Rattle.aoe_flight.specs.FlightTable.{live_at, FlightTable}
use Rattle.aoe_flight.specs.Outstanding.{flies_as, is_due, live, precedes, rest_time, IsFirst}
use Rattle.aoe_flight.proofs.RecallLemmas.{length-recalled}
use Rattle.aoe_flight.proofs.TimeLemmas.{same-bool}
use Rattle.aoe_initiator.specs.declared.device.Device.{Device}
use Rattle.aoe_initiator.specs.declared.pending.Pending.{Pending}
use Rattle.aoe_initiator.specs.Devices.{all_clear, IsLowest}
use Rattle.aoe_initiator.specs.Host.{Host, Matches, RecallAll, Waiting}
use Rattle.aoe_initiator.specs.HostLaw.{is_clear_at, IsQuiet}
use Rattle.aoe_initiator.specs.HostLog.{as_entered, commands, entered_at, is_at, sent_of, Event, HostCommand}
use Rattle.aoe_initiator.specs.Steps.{is_full, place, InTime}
use Rattle.aoe_initiator.proofs.ListLemmas.{not-placed, placed, Contains-cons_cases, Contains-filter, Contains-filter_from, Contains-map, Contains-map_from}
use Rattle.aoe_initiator.proofs.LogLemmas.{only, unfinished-there}
use Rattle.aoe_initiator.proofs.MatchLemmas.{one-command, pending-command, IsPending, stage-unsent}

-- ---- what is pending and what flies

-- a command that waits is pending
pub is-placed : (host : Host) (log : List Event) (t : Ticket) (c : HostCommand) → Matches log host → Contains (commands log) c → c.done ≡ false
    → c.ticket.0 ≡ t.0 → place t host.pending ≢ None
is-placed host log t c m there waits ticket missing =
    let entry : Waiting = record { ticket = c.ticket; device = c.device; op = c.op } in
    let found = Contains-map_from (λ (p : Pending). record { ticket = p.ticket; device = p.device; op = p.op }) host.pending entry
    (rw m.pending (unfinished-there (commands log) c there waits)) in
    let other = not-placed (λ (p : Pending). nat_eq p.ticket.0 t.0) host.pending found.0 missing found.1 in
    let same : found.0.ticket.0 ≡ t.0 = ap (λ (w : Waiting). w.ticket.0) found.2 ∙ ticket in
    let impossible : true ≡ false = sym (eq-eqb found.0.ticket.0 t.0 same) ∙ other in
    absurd cc

-- a command's pending entry, by the place where its ticket is found
pub pending-of : (host : Host) (log : List Event) (t : Ticket) (at : ℕ) (p : Pending) (c : HostCommand) → Matches log host → place t host.pending ≡ Some at
    → slice_get host.pending at ≡ Some p
    → Contains (commands log) c → c.ticket.0 ≡ t.0 → IsPending (commands log) p c
pending-of host log t at p c m found there inside same =
    let is_ticket : p.ticket.0 ≡ t.0 = eqb-true _ _ (placed (λ (q : Pending). nat_eq q.ticket.0 t.0) host.pending at p found there) in
    let other = pending-command (commands log) host.pending at p m.pending there in
    let is : other.0 ≡ c = one-command (commands log) c other.0 t.0 (only 0 (commands log) c m.tickets inside) other.1.there
    (ap (λ (u : Ticket). u.0) other.1.ticket ∙ is_ticket) same in
    rw (← is) other.1

pub find-flies : (test : Outstanding → Bool) (xs : List Outstanding) (c : Outstanding) → Contains xs c → test c ≡ true → IsSome (find test xs)
find-flies test [] c there passes = absurd (omega (arith, there.1))
find-flies test (x ∷ xs) c there passes = elim (Contains-cons_cases x c xs there) [
  | inl same ↦ let here : test x ≡ true = ap test same ∙ passes in rw here refl
  | inr behind ↦ at (test x) (find-flies test xs c behind passes)
]
  where
    at : (b : Bool) → IsSome (find test xs) → IsSome (cond b (Some x) (find test xs))
    at true rest = refl
    at false rest = rest

-- a due command flies
pub due-flies : (now : ℕ) (table : FlightTable) (t : Ticket) → ((c : Outstanding) × (c.ticket ≡ t) × IsFirst (is_due now) precedes table.commands c)
    → IsSome (find (flies_as t.0) table.commands)
due-flies now table t found =
    let c = found.0 in
    let parts = and_parts (not c.finished) (nat_le c.wait.0 (now - c.flying.last.0)) found.2.passes in
    let same : nat_eq c.ticket.0 t.0 ≡ true = eq-eqb _ _ (ap (λ (u : Ticket). u.0) found.1) in
    find-flies (flies_as t.0) table.commands c found.2.there (rw (parts.0, same) refl)

-- ---- clear commands

pub clear-unsent : (life now : ℕ) (cs : List HostCommand) (c : HostCommand) → is_clear_at life now cs c ≡ true → c.sends ≡ None
clear-unsent life now cs c is = stage-unsent c.sends c.done (and_parts (is_unsent (as_entered c)) _ is).0

-- a clear command with a ticket
pub record IsClearOf (life now : ℕ) (cs : List HostCommand) (t : ℕ) (c : HostCommand) : Type 0 where
  pub there : Contains cs c
  pub same : c.ticket.0 ≡ t
  pub clear : is_clear_at life now cs c ≡ true

module _ (life now : ℕ) (cs : List HostCommand) where
  clear-here : (n : ℕ) (c : HostCommand) → Contains cs c → c.device.0 ≡ n → is_clear_at life now cs c ≡ true
      → Contains (clear_tickets life now (entered_at n cs)) c.ticket.0
  clear-here n c there at_n is =
      let entered = Contains-map as_entered _ c (Contains-filter (is_at n) cs c there (eq-eqb c.device.0 n at_n)) in
      Contains-map (λ (d : Command). d.ticket.0) _ (as_entered c)
      (Contains-filter (is_clear life now (entered_at n cs)) _ (as_entered c) entered (rw (← at_n) is))

  clear-there : (n k : ℕ) (devices : List Device) (c : HostCommand) → Contains cs c → c.device.0 ≡ n + k → k < length devices → is_clear_at life now cs c ≡ true
      → Contains (all_clear life now cs n devices) c.ticket.0
  clear-there n k [] c there place_is inside is = absurd (omega (arith, inside))
  clear-there n zero (d ∷ devices) c there place_is inside is = Contains-append_left _ _ _ (clear-here n c there (omega (arith, place_is)) is)
  clear-there n (suc k) (d ∷ devices) c there place_is inside is =
      Contains-append_right _ _ _ (clear-there (n + 1) k devices c there (omega (arith, place_is)) (omega (arith, inside)) is)

  clear-of : (n t : ℕ) → Contains (clear_tickets life now (entered_at n cs)) t → (c : HostCommand) × IsClearOf life now cs t c
  clear-of n t there =
      let found = Contains-map_from (λ (d : Command). d.ticket.0) (filter (is_clear life now (entered_at n cs)) (entered_at n cs)) t there in
      let passed = Contains-filter_from (is_clear life now (entered_at n cs)) (entered_at n cs) found.0 found.1 in
      let from = Contains-map_from as_entered (filter (is_at n) cs) found.0 passed.0 in
      let here = Contains-filter_from (is_at n) cs from.0 from.1 in
      let at_n : from.0.device.0 ≡ n = eqb-true from.0.device.0 n here.1 in
      let clear : is_clear life now (entered_at n cs) (as_entered from.0) ≡ true = ap (is_clear life now (entered_at n cs)) from.2 ∙ passed.1 in (
        from.0,
        record { there = here.0; same = ap (λ (d : Command). d.ticket.0) from.2 ∙ found.2; clear = rw at_n clear },
      )

  clear-from : (n : ℕ) (devices : List Device) (t : ℕ) → Contains (all_clear life now cs n devices) t → (c : HostCommand) × IsClearOf life now cs t c
  clear-from n [] t there = absurd (omega (arith, there.1))
  clear-from n (d ∷ devices) t there = elim (Contains-append_cases (clear_tickets life now (entered_at n cs)) (all_clear life now cs (n + 1) devices) t there) [
    | inl here ↦ clear-of n t here
    | inr behind ↦ clear-from (n + 1) devices t behind
  ]

-- the tickets of all clear commands
abbrev clear_in : Host → List Event → List ℕ
clear_in host log = all_clear host.life.requests.0 host.clock (commands log) 0 host.devices

-- every clear command of the log is among the clear ones of the devices
clear-all : (host : Host) (log : List Event) (c : HostCommand) → Matches log host → Contains (commands log) c
    → is_clear_at host.life.requests.0 host.clock (commands log) c ≡ true → Contains (clear_in host log) c.ticket.0
clear-all host log c m there is =
    clear-there host.life.requests.0 host.clock (commands log) 0 c.device.0 host.devices c there (omega arith)
    (All-contains (λ x. x.device.0 < length host.devices) (commands log) c m.attached there) is

any-none : {X : Type 0} (test : X → Bool) (xs : List X) → list_any test xs ≡ false → All (λ x. test x ≡ false) xs
any-none test xs none = λ k d below. false_from_ne_true _ (λ passes. true≢false (sym (list_any_at test xs k d below passes) ∙ none))

no-tickets : (xs : List ℕ) → ((t : ℕ) → ¬ (Contains xs t)) → nat_lt 0 (length xs) ≡ false
no-tickets [] none = refl
no-tickets (x ∷ xs) none = absurd (none x (0, omega arith, refl))

-- a command is clear just where the devices have a clear one
pub any-clear : {host : Host} {log : List Event} → Matches log host → (now : ℕ)
    → list_any (is_clear_at host.life.requests.0 now (commands log)) (commands log)
    ≡ nat_lt 0 (length (all_clear host.life.requests.0 now (commands log) 0 host.devices))
any-clear {host} {log} m now =
    let life : ℕ = host.life.requests.0 in
    let cs = commands log in
    let test : HostCommand → Bool = is_clear_at life now cs in
    let clear = all_clear life now cs 0 host.devices in
    same-bool (list_any test cs) (nat_lt 0 (length clear))
    (λ none. no-tickets clear (λ t there.
    let found = clear-from life now cs 0 host.devices t there in
    true≢false (sym found.1.clear ∙ All-contains (λ c. test c ≡ false) cs found.0 (any-none test cs none) found.1.there)))
    (λ none. list_any_none test cs (All-weaker (Contains cs) (λ c. test c ≡ false) (λ c there. false_from_ne_true _ (λ is.
    let within = All-contains (λ (x : HostCommand). x.device.0 < length host.devices) cs c m.attached there in
    let inside = clear-there life now cs 0 c.device.0 host.devices c there (omega arith) within is in
    omega (arith, inside.1, ltb-false 0 (length clear) none))) cs (All-contains_itself cs)))

-- the clear command with the lowest ticket
pub record IsLowestClear (host : Host) (log : List Event) (t : Ticket) (c : HostCommand) : Type 0 where
  pub is : IsClearOf host.life.requests.0 host.clock (commands log) t.0 c
  pub first : All (λ other. is_clear_at host.life.requests.0 host.clock (commands log) other ≡ true → t.0 ≤ other.ticket.0) (commands log)

pub lowest-clear : (host : Host) (log : List Event) (t : Ticket) → Matches log host → IsLowest (clear_in host log) (Some t)
    → (c : HostCommand) × IsLowestClear host log t c
lowest-clear host log t m lowest =
    let found = clear-from host.life.requests.0 host.clock (commands log) 0 host.devices t.0 lowest.0 in (
      found.0,
      record {
        is = found.1;
        first = All-weaker (Contains (commands log)) (λ other. is_clear_at host.life.requests.0 host.clock (commands log) other ≡ true → t.0 ≤ other.ticket.0)
            (λ other inside is. All-contains (λ n. t.0 ≤ n) (clear_in host log) other.ticket.0 lowest.1 (clear-all host log other m inside is)) (commands log)
            (All-contains_itself (commands log));
      },
    )

-- ---- room

live-count : (host : Host) (log : List Event) → Matches log host → InTime host
    → length (live_at host.flight host.clock) ≡ length (live (rest_time host.life) host.clock (sent_of (commands log)))
live-count host log m time = rw (← m.rest) (length-recalled host.flight (sent_of (commands log)) host.clock m.sent time.flight)

pub has-room : (host : Host) (log : List Event) → Matches log host → InTime host → is_full host ≡ false
    → length (live (rest_time host.life) host.clock (sent_of (commands log))) < host.room
has-room host log m time room = omega (arith, leb-false _ _ room, live-count host log m time, m.room)

-- ---- nothing to be sent

-- nothing may be sent, where nothing is due
abbrev pub IsQuietIdle : Host → Type 0
IsQuietIdle host = (log : List Event) → Matches log host → All (λ o. is_due host.clock o ≡ false) (sent_of (commands log)) → IsQuiet host (commands log)

quiet-full : (host : Host) → InTime host → is_full host ≡ true → IsQuietIdle host
quiet-full host time full log m none = record { nothing_due = none; nothing_clear = inl (omega (arith, leb-true _ _ full, live-count host log m time, m.room)) }

quiet-clear : (host : Host) (log : List Event) (lowest : Option Ticket) → Matches log host → All (λ o. is_due host.clock o ≡ false) (sent_of (commands log))
    → IsLowest (clear_in host log) lowest
    → IfSome lowest (λ t. place t host.pending ≡ None) → IsQuiet host (commands log)
quiet-clear host log None m none lowest missing =
    record { nothing_due = none; nothing_clear = inr (All-weaker (Contains (commands log)) _ each (commands log) (All-contains_itself (commands log))) }
  where
    each : (c : HostCommand) → Contains (commands log) c → is_clear_at host.life.requests.0 host.clock (commands log) c ≡ false
    each c there = false_from_ne_true _ (λ is. let impossible = rw lowest at (clear-all host log c m there is) in omega (arith, impossible.1))
quiet-clear host log (Some t) m none lowest missing =
    let found = lowest-clear host log t m lowest in
    let c = found.0 in
    let clear = found.1.is in
    absurd (is-placed host log t c m clear.there
    (waits c (clear-unsent host.life.requests.0 host.clock (commands log) c clear.clear) clear.there) clear.same missing)
  where
    waits : (c : HostCommand) → c.sends ≡ None → Contains (commands log) c → c.done ≡ false
    waits c unsent there = false_from_ne_true _
        (λ done. let flew = rw unsent at (All-contains (λ x. x.done ≡ true → IsSome x.sends) (commands log) c m.flew there done) in cc)

pub quiet-exit : {T : Type 0} (o : Option T) (old : Host) → InTime old
    → (is_full old ≡ false → (lowest : Option Ticket)
    × ((life : ℕ) (cs : List HostCommand) → RecallAll life cs 0 old.devices → IsLowest (all_clear life old.clock cs 0 old.devices) lowest)
    × IfSome lowest (λ t. place t old.pending ≡ None))
    → IfNone o (IsQuietIdle old)
quiet-exit (Some x) old time stuck = tt
quiet-exit None old time stuck = λ log m none. elim (cases_Bool (is_full old)) [
  | inl full ↦ quiet-full old time full log m none
  | inr room ↦ let found = stuck room in quiet-clear old log found.0 m none (found.1 old.life.requests.0 (commands log) m.entered) found.2
]
