-- From when on there is something to do, and how much flies.
use Rattle.std.proofs.Common.{ℕ, ◌≡◌, ◌≢◌, ◌+◌, ◌-◌, ◌^◌, ◌<◌, ◌≤◌, ◌&&◌, ◌||◌, cond, not, min, max, Bool, true, false, List, [], ◌∷◌, length, Option, Some, None, inl, inr, refl, sym, ap, ◌∙◌, arith, nat_le, nat_lt}
use Rattle.std.specs.Prelude.{is_some, slice_get, All, Contains}
use Rattle.std.specs.List.{count_by, list_any, sum_by}
use Rattle.std.proofs.lemmas.Bool.{and_parts, false_from_ne_true, le-leb, le-ltb, lt-leb, lt-ltb, ltb-false, ltb-true, not-true, true≢false}
use Rattle.std.proofs.lemmas.Bool.Decides.{nat_tests}
use Rattle.std.proofs.lemmas.List.Elements.{All-contains, All-contains_itself, All-head, All-tail, All-weaker}
use Rattle.std.proofs.lemmas.List.Sums.{sum_by-cons}
use Rattle.aoe_base.specs.declared.counted.Millis.{Millis}
use Rattle.aoe_base.specs.declared.counted.Ticket.{Ticket}
use Rattle.aoe_flight.specs.declared.outstanding.Outstanding.{Outstanding}
use Rattle.aoe_flight.specs.FlightTable.{Recalls as RecallsSent}
use Rattle.aoe_flight.specs.Outstanding.{flies_above, is_due, is_expired, live, lower, rest_time, IsFirst}
use Rattle.aoe_initiator.specs.declared.op.Op.{Op}
use Rattle.aoe_initiator.specs.declared.pending.Pending.{Pending}
use Rattle.aoe_initiator.specs.Host.{Ascends, Host, Matches}
use Rattle.aoe_initiator.specs.HostLaw.{flying_of, flying_sectors, is_clear_at, is_flying, IsNextTime}
use Rattle.aoe_initiator.specs.HostLog.{commands, outstanding, sent_of, Event, HostCommand, Sending}
use Rattle.aoe_initiator.specs.Op.{span_of}
use Rattle.aoe_initiator.specs.Steps.{is_flying_above, place, HasWorkFrom, InTime, IsNextAbove}
use Rattle.aoe_initiator.proofs.ClearLemmas.{any-clear, is-placed, pending-of}
use Rattle.aoe_initiator.proofs.DeviceLemmas.{ClearFrom}
use Rattle.aoe_initiator.proofs.ListLemmas.{Contains-cons_cases}
use Rattle.aoe_initiator.proofs.LogLemmas.{ascends-all}
use Rattle.aoe_initiator.proofs.MatchLemmas.{sent-from, sent-there}

-- ---- time

joined-times : (due expired room clear now : ℕ)
    → (nat_le due now || nat_le expired now || (nat_le room now && nat_le clear now)) ≡ nat_le (min (min due expired) (max room clear)) now
joined-times due expired room clear now = grind (arith, nat_tests)

module _ {host : Host} {log : List Event} (m : Matches log host) (time : InTime host) where
  pub work-from : (due expired room clear : ℕ)
      → ((sent : List Outstanding) → RecallsSent host.flight sent → (now : ℕ) → host.flight.latest ≤ now → now < 2 ^ 64
      → list_any (is_due now) sent ≡ nat_le due now)
      → ((sent : List Outstanding) → RecallsSent host.flight sent → (now : ℕ) → host.flight.latest ≤ now → now < 2 ^ 64
      → list_any (is_expired host.flight.dead now) sent ≡ nat_le expired now)
      → ((sent : List Outstanding) → RecallsSent host.flight sent → (now : ℕ) → host.flight.latest ≤ now → now < 2 ^ 64
      → nat_lt (length (live host.flight.rest now sent)) host.flight.room ≡ nat_le room now)
      → ClearFrom host.devices host.devices clear → HasWorkFrom host (commands log) (min (min due expired) (max room clear))
  work-from due expired room clear due_is expired_is room_is clear_is now later small =
      let cs = commands log in
      let sent = sent_of cs in
      let past : host.flight.latest ≤ now = omega (arith, time.flight, later) in
      let times = All-weaker (λ d. d.holds.latest ≤ host.clock) (λ d. d.holds.latest ≤ now) (λ d le. omega (arith, le, later)) host.devices time.devices in
      let of_due = due_is sent m.sent now past small in
      let of_expired : list_any (is_expired host.dead now) sent ≡ nat_le expired now = rw (← m.dead) (expired_is sent m.sent now past small) in
      let of_room : nat_lt (length (live (rest_time host.life) now sent)) host.room ≡ nat_le room now =
      rw (← m.rest, ← m.room) (room_is sent m.sent now past small) in
      let of_clear : list_any (is_clear_at host.life.requests.0 now cs) cs ≡ nat_le clear now =
      any-clear m now ∙ clear_is host.life.requests.0 cs m.entered now times small in
      rw (of_due, of_expired, of_room, of_clear) (joined-times due expired room clear now)

pub next-none : (host : Host) (cs : List HostCommand) (from : ℕ) → 2 ^ 64 ≤ from → HasWorkFrom host cs from → IsNextTime host cs None
next-none host cs from late work now later small = work now later small ∙ lt-leb from now (omega (arith, late, small))

pub next-some : (host : Host) (cs : List HostCommand) (from : ℕ) (time : Millis) → time.0 ≡ max from host.clock → time.0 < 2 ^ 64
    → HasWorkFrom host cs from → IsNextTime host cs (Some time)
next-some host cs from time is small work = (
  omega (arith, is),
  work time.0 (omega (arith, is)) small ∙ le-leb from time.0 (omega (arith, is)),
  λ now later early. work now later (omega (arith, early, small)) ∙ lt-leb from now (omega (arith, is, later, early)),
)

-- ---- what flies

-- no flying command has a ticket above a number, in any log
abbrev pub HasNoneAbove : Host → ℕ → Type 0
HasNoneAbove host n = (sent : List Outstanding) → RecallsSent host.flight sent → All (λ o. flies_above n o ≡ false) sent

-- the lowest that one has is this
abbrev pub IsAbove : Host → ℕ → Ticket → Type 0
IsAbove host n t = (sent : List Outstanding) → RecallsSent host.flight sent → (o : Outstanding) × (o.ticket ≡ t) × IsFirst (flies_above n) lower sent o

-- a command that was sent and flies is one of the log
flying-above : (n : ℕ) (c : HostCommand) (s : Sending) → c.sends ≡ Some s → flies_above n (outstanding c s) ≡ is_flying_above n c
flying-above n c s sends = rw sends refl

is-sent : (c : HostCommand) (o : Option Sending) → c.sends ≡ o → is_flying c ≡ true → (s : Sending) × (c.sends ≡ Some s)
is-sent c None is flies = let impossible = rw is at flies in absurd cc
is-sent c (Some s) is flies = (s, is)

module _ {host : Host} {log : List Event} (m : Matches log host) (n : ℕ) where
  pub none-flying : All (λ o. flies_above n o ≡ false) (sent_of (commands log)) → All (λ c. is_flying_above n c ≡ false) (commands log)
  none-flying none = All-weaker (Contains (commands log)) (λ c. is_flying_above n c ≡ false) (λ c there. false_from_ne_true _ (λ flies.
      let s = is-sent c c.sends refl (and_parts (is_flying c) (nat_lt n c.ticket.0) flies).0 in
      let out = All-contains (λ o. flies_above n o ≡ false) (sent_of (commands log)) (outstanding c s.0) none (sent-there (commands log) c s.0 there s.1) in
      true≢false (sym flies ∙ sym (flying-above n c s.0 s.1) ∙ out))) (commands log) (All-contains_itself (commands log))

  -- the command of the log that the tables give
  record IsFirstAbove (t : Ticket) (c : HostCommand) : Type 0 where
    there : Contains (commands log) c
    flies : is_flying_above n c ≡ true
    same : c.ticket.0 ≡ t.0
    waits : c.done ≡ false
    lowest : All (λ other. is_flying_above n other ≡ true → t.0 ≤ other.ticket.0) (commands log)

  first-above : (t : Ticket) → ((o : Outstanding) × (o.ticket ≡ t) × IsFirst (flies_above n) lower (sent_of (commands log)) o)
      → (c : HostCommand) × IsFirstAbove t c
  first-above t found =
      let o = found.0 in
      let first = found.2 in
      let from = sent-from (commands log) o first.there in
      let c = from.0 in
      let s = from.1.s in
      let flies : is_flying_above n c ≡ true = sym (flying-above n c s from.1.sends) ∙ ap (flies_above n) (sym from.1.is) ∙ first.passes in
      let same : c.ticket.0 ≡ t.0 = ap (λ (e : Outstanding). e.ticket.0) (sym from.1.is) ∙ ap (λ (u : Ticket). u.0) found.1 in
      let parts = and_parts (is_flying c) (nat_lt n c.ticket.0) flies in (
        c,
        record {
          there = from.1.there;
          flies = flies;
          same = same;
          waits = not-true c.done (and_parts (is_some c.sends) (not c.done) parts.0).1;
          lowest = All-weaker (Contains (commands log)) (λ other. is_flying_above n other ≡ true → t.0 ≤ other.ticket.0)
              (λ other there other_flies.
              let so = is-sent other other.sends refl (and_parts (is_flying other) (nat_lt n other.ticket.0) other_flies).0 in
              let out = All-contains (λ e. flies_above n e ≡ true → lower e o ≡ false) (sent_of (commands log)) (outstanding other so.0) first.least
              (sent-there (commands log) other so.0 there so.1) (flying-above n other so.0 so.1 ∙ other_flies) in
              omega (arith, ltb-false _ _ out, ap (λ (u : Ticket). u.0) found.1)) (commands log) (All-contains_itself (commands log));
        },
      )

  pub next-above : (t : Ticket) (at : ℕ) (p : Pending) (count : ℕ)
      → ((o : Outstanding) × (o.ticket ≡ t) × IsFirst (flies_above n) lower (sent_of (commands log)) o)
      → place t host.pending ≡ Some at → slice_get host.pending at ≡ Some p → count ≡ (span_of p.op).count → IsNextAbove n (commands log) t.0 count
  next-above t at p count found placed there is =
      let first = first-above t found in
      let c = first.0 in
      let pending = pending-of host log t at p c m placed there first.1.there first.1.same in
      record {
        command = c;
        there = first.1.there;
        flies = first.1.flies;
        ticket_is = first.1.same;
        count_is = ap (λ (o : Op). (span_of o).count) pending.op ∙ sym is;
        lowest = first.1.lowest;
      }

  -- what flies is pending
  pub not-missing : (t : Ticket) → ((o : Outstanding) × (o.ticket ≡ t) × IsFirst (flies_above n) lower (sent_of (commands log)) o)
      → place t host.pending ≢ None
  not-missing t found =
      let first = first-above t found in
      is-placed host log t first.0 m first.1.there first.1.waits first.1.same

-- ---- sums over what flies

-- what a command counts for where it flies and has a ticket above a number
abbrev weight : (HostCommand → ℕ) → ℕ → HostCommand → ℕ
weight w n c = cond (is_flying_above n c) (w c) 0

module _ (w : HostCommand → ℕ) where
  sum-same : (f g : HostCommand → ℕ) (cs : List HostCommand) → All (λ c. f c ≡ g c) cs → sum_by f cs ≡ sum_by g cs
  sum-same f g [] same = refl
  sum-same f g (c ∷ cs) same =
      sum_by-cons f c cs ∙ omega (
        arith,
        All-head (λ c. f c ≡ g c) c cs same,
        sum-same f g cs (All-tail (λ c. f c ≡ g c) c cs same),
      ) ∙ sym (sum_by-cons g c cs)

  pub sum-none : (n : ℕ) (cs : List HostCommand) → All (λ c. is_flying_above n c ≡ false) cs → sum_by (weight w n) cs ≡ 0
  sum-none n [] none = refl
  sum-none n (c ∷ cs) none =
      let here : weight w n c ≡ 0 = rw (All-head (λ d. is_flying_above n d ≡ false) c cs none) refl in
      sum_by-cons (weight w n) c cs
      ∙ omega (arith, here, sum-none n cs (All-tail (λ d. is_flying_above n d ≡ false) c cs none))

  above-below : (n t : ℕ) (c : HostCommand) → n < c.ticket.0 → t < c.ticket.0 → weight w n c ≡ weight w t c
  above-below n t c over_n over_t = rw (lt-ltb n c.ticket.0 over_n, lt-ltb t c.ticket.0 over_t) refl

  not-above : (t : ℕ) (c : HostCommand) → c.ticket.0 ≤ t → weight w t c ≡ 0
  not-above t c below = rw (le-ltb t c.ticket.0 below) (never (is_flying c) (w c))
    where
      never : (b : Bool) (x : ℕ) → cond (b && false) x 0 ≡ 0
      never true x = refl
      never false x = refl

  -- the one with the lowest ticket, and those above
  pub sum-step : (k n : ℕ) (cs : List HostCommand) (c : HostCommand) → Ascends k cs → Contains cs c → is_flying_above n c ≡ true
      → All (λ d. is_flying_above n d ≡ true → c.ticket.0 ≤ d.ticket.0) cs → sum_by (weight w n) cs ≡ w c + sum_by (weight w c.ticket.0) cs
  sum-step k n [] c up there flies lowest = absurd (omega (arith, there.1))
  sum-step k n (x ∷ cs) c up there flies lowest = elim (Contains-cons_cases x c cs there) [
    | inl same ↦
        let ticket : x.ticket.0 ≡ c.ticket.0 = ap (λ (e : HostCommand). e.ticket.0) same in
        let over : n < c.ticket.0 = ltb-true n c.ticket.0 (and_parts (is_flying c) (nat_lt n c.ticket.0) flies).1 in
        let here : weight w n x ≡ w c = rw (same, flies) refl in
        let none : weight w c.ticket.0 x ≡ 0 = not-above c.ticket.0 x (omega (arith, ticket)) in
        let rest = sum-same (weight w n) (weight w c.ticket.0) cs
        (All-weaker (λ d. x.ticket.0 < d.ticket.0) (λ d. weight w n d ≡ weight w c.ticket.0 d)
        (λ d above. above-below n c.ticket.0 d (omega (arith, over, ticket, above)) (omega (arith, ticket, above))) cs (ascends-all x.ticket.0 cs up.1)) in
        omega (arith, sum_by-cons (weight w n) x cs, sum_by-cons (weight w c.ticket.0) x cs, here, none, rest)
    | inr behind ↦
        let above : x.ticket.0 < c.ticket.0 = All-contains (λ y. x.ticket.0 < y.ticket.0) cs c (ascends-all x.ticket.0 cs up.1) behind in
        let out : is_flying_above n x ≡ false = false_from_ne_true _ (λ is.
        omega (arith, above, All-head (λ d. is_flying_above n d ≡ true → c.ticket.0 ≤ d.ticket.0) x cs lowest is)) in
        let here : weight w n x ≡ 0 = rw out refl in
        let none : weight w c.ticket.0 x ≡ 0 = not-above c.ticket.0 x (omega (arith, above)) in
        let rest = sum-step x.ticket.0 n cs c up.1 behind flies (All-tail (λ d. is_flying_above n d ≡ true → c.ticket.0 ≤ d.ticket.0) x cs lowest) in
        omega (arith, sum_by-cons (weight w n) x cs, sum_by-cons (weight w c.ticket.0) x cs, here, none, rest)
  ]

  -- above 0 are all
  pub sum-all : (cs : List HostCommand) → Ascends 0 cs → sum_by (weight w 0) cs ≡ sum_by (λ c. cond (is_flying c) (w c) 0) cs
  sum-all cs up = sum-same (weight w 0) (λ c. cond (is_flying c) (w c) 0) cs
      (All-weaker (λ c. 0 < c.ticket.0) (λ c. weight w 0 c ≡ cond (is_flying c) (w c) 0)
      (λ c above. rw (lt-ltb 0 c.ticket.0 above) (always (is_flying c) (w c))) cs (ascends-all 0 cs up))
    where
      always : (b : Bool) (x : ℕ) → cond (b && true) x 0 ≡ cond b x 0
      always true x = refl
      always false x = refl

abbrev one : HostCommand → ℕ
one c = 1

abbrev sectors : HostCommand → ℕ
sectors c = (span_of c.op).count

-- so much was counted of what flies up to a ticket: with what flies above, it is all
pub record IsCounted (host : Host) (counted counted_sectors last : ℕ) : Type 0 where
  pub few : counted ≤ last
  pub fits : counted_sectors ≤ 2 ^ 64 - 1
  pub given : last ≤ host.last_ticket
  pub number : (log : List Event) → Matches log host → counted + sum_by (weight one last) (commands log) ≡ count_by is_flying (commands log)
  pub length : (log : List Event) → Matches log host
      → min (counted_sectors + sum_by (weight sectors last) (commands log)) (2 ^ 64 - 1) ≡ min (sum_by flying_sectors (commands log)) (2 ^ 64 - 1)

pub counted-none : (host : Host) → IsCounted host 0 0 0
counted-none host = record {
  few = omega arith;
  fits = omega arith;
  given = omega arith;
  number = λ log m.
      let all : sum_by (weight one 0) (commands log) ≡ count_by is_flying (commands log) = sum-all one (commands log) m.tickets in
      omega (arith, all);
  length = λ log m.
      let all : sum_by (weight sectors 0) (commands log) ≡ sum_by flying_sectors (commands log) = sum-all sectors (commands log) m.tickets in
      omega (arith, all);
}

pub counted-more : (host : Host) (counted counted_sectors last ticket count next : ℕ) → IsCounted host counted counted_sectors last → last < ticket
    → ticket ≤ host.last_ticket
    → ((log : List Event) → Matches log host → IsNextAbove last (commands log) ticket count) → next ≡ min (counted_sectors + count) (2 ^ 64 - 1)
    → IsCounted host (counted + 1) next ticket
counted-more host counted counted_sectors last ticket count next is later given found sum = record {
  few = omega (arith, is.few, later);
  fits = omega (arith, sum);
  given = given;
  number = λ log m.
      let a = found log m in
      let step = rw (a.ticket_is) at (sum-step one 0 last (commands log) a.command m.tickets a.there a.flies (rw (← a.ticket_is) at a.lowest)) in
      omega (arith, is.number log m, step);
  length = λ log m.
      let a = found log m in
      let step = rw (a.ticket_is) at (sum-step sectors 0 last (commands log) a.command m.tickets a.there a.flies (rw (← a.ticket_is) at a.lowest)) in
      omega (arith, is.length log m, step, a.count_is, sum);
}

pub counted-all : (host : Host) (counted counted_sectors last : ℕ) → IsCounted host counted counted_sectors last
    → ((log : List Event) → Matches log host → All (λ c. is_flying_above last c ≡ false) (commands log))
    → (log : List Event) → Matches log host → record { commands = counted; sectors = counted_sectors } ≡ flying_of (commands log)
counted-all host counted counted_sectors last is none log m =
    let number : counted ≡ count_by is_flying (commands log) =
    omega (arith, is.number log m, sum-none one last (commands log) (none log m)) in
    let length : counted_sectors ≡ min (sum_by flying_sectors (commands log)) (2 ^ 64 - 1) =
    omega (arith, is.length log m, sum-none sectors last (commands log) (none log m), is.fits) in
    rw (number, length) refl
