-- Which command a frame answers.
use Rattle.std.proofs.Common.{ℕ, ◌≡◌, ◌≢◌, ◌≤◌, ◌+◌, ◌*◌, ◌&&◌, length, cond, not, Bool, true, false, List, drop, Option, Some, None, inl, inr, refl, sym, ap, subst, ◌∙◌, arith, nat_eq}
use Rattle.std.specs.Prelude.{option_map, slice_get, All, Contains, IfNone, IfSome, IsSome}
use Rattle.std.specs.List.{find}
use Rattle.std.proofs.lemmas.Bool.{and_parts, cases_Bool, eq-eqb, eqb-true, not-true, and_right, and_left, and_from}
use Rattle.std.proofs.lemmas.List.Elements.{All-contains, All-weaker, All-contains_itself}
use Rattle.aoe_base.specs.declared.address.Mac.{Mac}
use Rattle.aoe_base.specs.declared.counted.PathNo.{PathNo}
use Rattle.aoe_base.specs.declared.counted.Ticket.{Ticket}
use Rattle.aoe_base.specs.declared.counted.DeviceNo.{DeviceNo}
use Rattle.aoe_base.specs.Addresses.{holds}
use Rattle.aoe_frame.specs.declared.header.Header.{Header}
use Rattle.aoe_frame.specs.Header.{head}
use Rattle.aoe_base.proofs.AddressLemmas.{place-of}
use Rattle.aoe_paths.specs.PathTable.{pair_of}
use Rattle.aoe_paths.proofs.PairLemmas.{pair-of-number}
use Rattle.aoe_initiator.specs.declared.device.Device.{Device}
use Rattle.aoe_flight.specs.declared.outstanding.Outstanding.{Outstanding}
use Rattle.aoe_flight.specs.Outstanding.{flies_as, flies_with, tag_count}
use Rattle.aoe_flight.specs.FlightTable.{FlightTable}
use Rattle.aoe_flight.proofs.RecallLemmas.{tagged-once, find-there}
use Rattle.aoe_initiator.specs.declared.op.Op.{Op}
use Rattle.aoe_initiator.specs.declared.pending.Pending.{Pending}
use Rattle.aoe_initiator.specs.declared.response.Answer.{Answer}
use Rattle.aoe_initiator.specs.Host.{Host, Matches, Waiting}
use Rattle.aoe_initiator.specs.HostLaw.{answer_to, has_tag, is_answered, is_from, is_response_to, same_id, CameOn}
use Rattle.aoe_initiator.specs.HostLog.{commands, outstanding, sent_of, Event, HostCommand, Sending}
use Rattle.aoe_initiator.specs.Response.{answer, has_flag}
use Rattle.aoe_initiator.specs.Op.{command_of}
use Rattle.aoe_initiator.specs.Steps.{place}
use Rattle.aoe_initiator.proofs.ListLemmas.{get-past, not-placed, placed, placed-inside, Contains-map_from}
use Rattle.aoe_initiator.proofs.LogLemmas.{only, unfinished-there}
use Rattle.aoe_initiator.proofs.PathLemmas.{has-paths}
use Rattle.aoe_initiator.proofs.ClearLemmas.{find-flies}
use Rattle.aoe_initiator.proofs.MatchLemmas.{one-command, pending-command, sent-from, sent-there, IsPending}

-- a frame answers no command
abbrev pub AnswersNone : Host → List ℕ → Type 0
AnswersNone host frame = (log : List Event) → Matches log host → All (λ c. answer_to host c frame ≡ None) (commands log)

pub if-none : {T : Type 0} (o : Option T) (host : Host) (frame : List ℕ) → AnswersNone host frame → IfNone o (AnswersNone host frame)
if-none None host frame none = none
if-none (Some x) host frame none = tt

-- the command flies with a tag
abbrev pub tagged : ℕ → HostCommand → Bool
tagged tag c = not c.done && has_tag tag c.sends

and-false : (a b c : Bool) → b ≡ false → (a && b && c) ≡ false
and-false a b c is = and_left (a && b) c (and_right a b is)

last-false : (a b c : Bool) → c ≡ false → (a && b && c) ≡ false
last-false a b c is = and_right (a && b) c is

all-true : (a b c : Bool) → a ≡ true → b ≡ true → c ≡ true → (a && b && c) ≡ true
all-true a b c x y z = and_from (a && b) c (and_from a b x y) z

-- a frame whose header isn't that of a response to the command
not-answered : (host : Host) (c : HostCommand) (frame : List ℕ) (h : Header) → head frame ≡ Some h → is_answered host c h ≡ false
    → answer_to host c frame ≡ None
not-answered host c frame h is out = rw (is, out) refl

pub untagged : (host : Host) (c : HostCommand) (frame : List ℕ) (h : Header) → head frame ≡ Some h → tagged h.tag c ≡ false → answer_to host c frame ≡ None
untagged host c frame h is out =
    not-answered host c frame h is (and-false (is_response_to host h) (tagged h.tag c) (is_from (slice_get host.devices c.device.0) c.op h) out)

-- no command flies with a tag
no-flyer : (cs : List HostCommand) (tag : ℕ) (c : HostCommand) → All (λ o. flies_with tag o ≡ false) (sent_of cs) → Contains cs c → tagged tag c ≡ false
no-flyer cs tag c none there = at c.sends refl
  where
    at : (o : Option Sending) → c.sends ≡ o → (not c.done && has_tag tag o) ≡ false
    at None is = and_right (not c.done) false refl
    at (Some s) is = All-contains (λ o. flies_with tag o ≡ false) (sent_of cs) (outstanding c s) none (sent-there cs c s there is)

pub all-untagged : (host : Host) (log : List Event) (frame : List ℕ) (h : Header) → head frame ≡ Some h
    → All (λ o. flies_with h.tag o ≡ false) (sent_of (commands log)) → All (λ c. answer_to host c frame ≡ None) (commands log)
all-untagged host log frame h is none =
    All-weaker (Contains (commands log)) (λ c. answer_to host c frame ≡ None)
    (λ c there. untagged host c frame h is (no-flyer (commands log) h.tag c none there)) (commands log) (All-contains_itself (commands log))

-- the command that flies with a tag
pub record IsFlyer (cs : List HostCommand) (tag : ℕ) (t : Ticket) (c : HostCommand) : Type 0 where
  pub there : Contains cs c
  pub s : Sending
  pub sends : c.sends ≡ Some s
  pub waits : c.done ≡ false
  pub ticket : c.ticket ≡ t
  pub flies : flies_with tag (outstanding c s) ≡ true

pub flyer : (cs : List HostCommand) (tag : ℕ) (t : Ticket) → ((o : Outstanding) × (o.ticket ≡ t) × Contains (sent_of cs) o × (flies_with tag o ≡ true))
    → (c : HostCommand) × IsFlyer cs tag t c
flyer cs tag t found =
    let o = found.0 in
    let from = sent-from cs o found.2 in
    let c = from.0 in
    let flies : flies_with tag (outstanding c from.1.s) ≡ true = rw (← from.1.is) found.3 in
    let parts = and_parts (not c.done) (nat_eq from.1.s.tag tag) flies in (
      c,
      record {
        there = from.1.there;
        s = from.1.s;
        sends = from.1.sends;
        waits = not-true c.done parts.0;
        ticket = ap (λ (e : Outstanding). e.ticket) (sym from.1.is) ∙ found.1;
        flies = flies;
      },
    )

flyer-tagged : (cs : List HostCommand) (tag : ℕ) (t : Ticket) (c : HostCommand) → IsFlyer cs tag t c → tagged tag c ≡ true
flyer-tagged cs tag t c f =
    rw f.sends f.flies

-- it is the only one
only-flyer : (host : Host) (log : List Event) (tag : ℕ) (t : Ticket) (c x : HostCommand) → Matches log host → tag_count host.flight.commands tag ≤ 1
    → IsFlyer (commands log) tag t c → Contains (commands log) x → tagged tag x ≡ true → x ≡ c
only-flyer host log tag t c x m few f there flies = at x.sends refl
  where
    at : (o : Option Sending) → x.sends ≡ o → x ≡ c
    at None is =
        let Q : Option Sending → Type 0 = λ o. (not x.done && has_tag tag o) ≡ true in
        let impossible = (and_parts (not x.done) false (subst Q is flies)).1 in
        absurd cc
    at (Some s) is =
        let Q : Option Sending → Type 0 = λ o. (not x.done && has_tag tag o) ≡ true in
        let x_flies : flies_with tag (outstanding x s) ≡ true = subst Q is flies in
        let same = tagged-once host.flight (sent_of (commands log)) tag (outstanding x s) (outstanding c f.s) m.sent few
        (sent-there (commands log) x s there is) x_flies (sent-there (commands log) c f.s f.there f.sends) f.flies in
        one-command (commands log) c x c.ticket.0 (only 0 (commands log) c m.tickets f.there) there (ap (λ (e : Outstanding). e.ticket.0) same) refl

-- where the command that flies with the tag isn't answered, none is
pub none-answered : (host : Host) (log : List Event) (frame : List ℕ) (h : Header) (t : Ticket) (c : HostCommand) → Matches log host → head frame ≡ Some h
    → tag_count host.flight.commands h.tag ≤ 1 → IsFlyer (commands log) h.tag t c
    → answer_to host c frame ≡ None → All (λ x. answer_to host x frame ≡ None) (commands log)
none-answered host log frame h t c m is few f none =
    All-weaker (Contains (commands log)) (λ x. answer_to host x frame ≡ None) each (commands log) (All-contains_itself (commands log))
  where
    each : (x : HostCommand) → Contains (commands log) x → answer_to host x frame ≡ None
    each x there = elim (cases_Bool (tagged h.tag x)) [
      | inl flies ↦ let P : HostCommand → Type 0 = λ e. answer_to host e frame ≡ None in
          subst P (sym (only-flyer host log h.tag t c x m few f there flies)) none
      | inr out ↦ untagged host x frame h is out
    ]

-- what flies is pending
pub flyer-placed : (host : Host) (log : List Event) (tag : ℕ) (t : Ticket) (c : HostCommand) → Matches log host → IsFlyer (commands log) tag t c
    → place t host.pending ≢ None
flyer-placed host log tag t c m f missing =
    let waits = unfinished-there (commands log) c f.there f.waits in
    let inside = rw (← m.pending) at waits in
    let found = Contains-map_from (λ (p : Pending). record { ticket = p.ticket; device = p.device; op = p.op }) host.pending
    (record { ticket = c.ticket; device = c.device; op = c.op }) inside in
    let other : nat_eq found.0.ticket.0 t.0 ≡ false = not-placed (λ (p : Pending). nat_eq p.ticket.0 t.0) host.pending found.0 missing found.1 in
    let same : found.0.ticket ≡ t = ap (λ (w : Waiting). w.ticket) found.2 ∙ f.ticket in
    let is : nat_eq found.0.ticket.0 t.0 ≡ true = eq-eqb found.0.ticket.0 t.0 (ap (λ (u : Ticket). u.0) same) in
    absurd cc

-- what is pending at the place of its ticket is the command that flies
pub flyer-pending : (host : Host) (log : List Event) (tag at : ℕ) (t : Ticket) (c : HostCommand) (p : Pending) → Matches log host
    → IsFlyer (commands log) tag t c → place t host.pending ≡ Some at → slice_get host.pending at ≡ Some p → IsPending (commands log) p c
flyer-pending host log tag at t c p m f found there =
    let is_ticket : p.ticket.0 ≡ t.0 = eqb-true p.ticket.0 t.0 (placed (λ (q : Pending). nat_eq q.ticket.0 t.0) host.pending at p found there) in
    let other = pending-command (commands log) host.pending at p m.pending there in
    let same : other.0 ≡ c = one-command (commands log) c other.0 t.0 (only 0 (commands log) c m.tickets f.there) other.1.there
    (ap (λ (u : Ticket). u.0) other.1.ticket ∙ is_ticket) (ap (λ (u : Ticket). u.0) f.ticket) in
    rw (← same) other.1

pub not-from : (host : Host) (log : List Event) (frame : List ℕ) (h : Header) (p : Pending) (c : HostCommand) → IsPending (commands log) p c
    → head frame ≡ Some h → is_from (slice_get host.devices p.device.0) p.op h ≡ false → answer_to host c frame ≡ None
not-from host log frame h p c pending is out =
    let device : c.device.0 ≡ p.device.0 = ap (λ (d : DeviceNo). d.0) pending.device in
    let elsewhere : is_from (slice_get host.devices c.device.0) c.op h ≡ false = rw (device, pending.op) out in
    not-answered host c frame h is (last-false (is_response_to host h) (tagged h.tag c) (is_from (slice_get host.devices c.device.0) c.op h) elsewhere)

pub no-answer : (host : Host) (log : List Event) (frame : List ℕ) (h : Header) (p : Pending) (c : HostCommand) → IsPending (commands log) p c
    → head frame ≡ Some h → answer p.op h (drop 24 frame) ≡ None → answer_to host c frame ≡ None
no-answer host log frame h p c pending is out =
    rw is (at (is_answered host c h) (rw pending.op out))
  where
    at : (b : Bool) → answer c.op h (drop 24 frame) ≡ None → cond b (answer c.op h (drop 24 frame)) None ≡ None
    at true none = none
    at false none = refl

pub answered-by : (host : Host) (log : List Event) (frame : List ℕ) (h : Header) (t : Ticket) (p : Pending) (c : HostCommand) (a : Answer)
    → IsPending (commands log) p c → IsFlyer (commands log) h.tag t c → head frame ≡ Some h
    → is_response_to host h ≡ true → is_from (slice_get host.devices p.device.0) p.op h ≡ true → answer p.op h (drop 24 frame) ≡ Some a
    → answer_to host c frame ≡ Some a
answered-by host log frame h t p c a pending f is hears from says =
    let device : c.device.0 ≡ p.device.0 = ap (λ (d : DeviceNo). d.0) pending.device in
    let here : is_from (slice_get host.devices c.device.0) c.op h ≡ true = rw (device, pending.op) from in
    let yes_answered : is_answered host c h ≡ true =
    all-true (is_response_to host h) (tagged h.tag c) (is_from (slice_get host.devices c.device.0) c.op h) hears
    (flyer-tagged (commands log) h.tag t c f) here in
    rw (is, yes_answered) (rw pending.op says)

pub not-from-at : (host : Host) (log : List Event) (frame : List ℕ) (h : Header) (t : Ticket) (at : ℕ) (from : Bool) (c : HostCommand) → Matches log host
    → head frame ≡ Some h → tag_count host.flight.commands h.tag ≤ 1 → IsFlyer (commands log) h.tag t c
    → place t host.pending ≡ Some at → from ≡ false → IfSome (slice_get host.pending at) (λ p. from ≡ is_from (slice_get host.devices p.device.0) p.op h)
    → All (λ x. answer_to host x frame ≡ None) (commands log)
not-from-at host log frame h t at from c m is few f found out says =
    none-answered host log frame h t c m is few f (by_place (slice_get host.pending at) refl says)
  where
    by_place : (o : Option Pending) → slice_get host.pending at ≡ o → IfSome o (λ p. from ≡ is_from (slice_get host.devices p.device.0) p.op h)
        → answer_to host c frame ≡ None
    by_place None missing says_so =
        absurd (omega (arith, get-past host.pending at missing, placed-inside (λ (q : Pending). nat_eq q.ticket.0 t.0) host.pending at found))
    by_place (Some p) there says_so = not-from host log frame h p c (flyer-pending host log h.tag at t c p m f found there) is (sym says_so ∙ out)

-- a frame with the tag of a command that is pending at a place
pub record HasFlyer (host : Host) (log : List Event) (frame : List ℕ) (h : Header) (t : Ticket) (at : ℕ) (p : Pending) (c : HostCommand) : Type 0 where
  pub matches : Matches log host
  pub read : head frame ≡ Some h
  pub flies : IsFlyer (commands log) h.tag t c
  pub found : place t host.pending ≡ Some at
  pub there : slice_get host.pending at ≡ Some p

module _ {host : Host} {log : List Event} {frame : List ℕ} {h : Header} {t : Ticket} {at : ℕ} {p : Pending} {c : HostCommand}
    (x : HasFlyer host log frame h t at p c) where
  its-pending : IsPending (commands log) p c
  its-pending = flyer-pending host log h.tag at t c p x.matches x.flies x.found x.there

  pub none-says : tag_count host.flight.commands h.tag ≤ 1 → answer p.op h (drop 24 frame) ≡ None → All (λ y. answer_to host y frame ≡ None) (commands log)
  none-says few none = none-answered host log frame h t c x.matches x.read few x.flies (no-answer host log frame h p c its-pending x.read none)

-- ---- the path of a response

from-device : (o : Option Device) (op : Op) (h : Header) → is_from o op h ≡ true → (d : Device) × (o ≡ Some d) × (holds d.about.remotes.items h.src ≡ true)
from-device None op h is = absurd cc
from-device (Some d) op h is =
    let outer = and_parts (holds d.about.remotes.items h.src && same_id h.id d.about.id) (nat_eq h.command (command_of op)) is in
    (d, refl, (and_parts (holds d.about.remotes.items h.src) (same_id h.id d.about.id) outer.0).0)

-- what was found of the sender of the command at a place
pub from-there : (host : Host) (h : Header) (at : ℕ) {p : Pending} {from : Bool} → slice_get host.pending at ≡ Some p → from ≡ true
    → IfSome (slice_get host.pending at) (λ q. from ≡ is_from (slice_get host.devices q.device.0) q.op h)
    → is_from (slice_get host.devices p.device.0) p.op h ≡ true
from-there host h at there is_true says = sym (rw there at says) ∙ is_true

-- the pair of a response's ports is that of a path
pub no-path : (host : Host) (log : List Event) (h : Header) (at : ℕ) (p : Pending) → Matches log host → slice_get host.pending at ≡ Some p
    → is_response_to host h ≡ true → is_from (slice_get host.devices p.device.0) p.op h ≡ true
    → IfSome (slice_get host.pending at) (λ q. IfSome (slice_get host.devices q.device.0) (λ d. (n : ℕ) → pair_of d.paths n ≢ Some (h.dst, h.src)))
    → {P : Type 0} → P
no-path host log h at p m there hears from none =
    let d = from-device (slice_get host.devices p.device.0) p.op h from in
    let N : Option Pending → Type 0 =
    λ o. IfSome o (λ q. IfSome (slice_get host.devices q.device.0) (λ e. (n : ℕ) → pair_of e.paths n ≢ Some (h.dst, h.src))) in
    let M : Option Device → Type 0 = λ o. IfSome o (λ e. (n : ℕ) → pair_of e.paths n ≢ Some (h.dst, h.src)) in
    let never_so = subst M d.1 (subst N there none) in
    let has = has-paths host log p.device.0 d.0 m d.1 in
    let local = place-of host.ports h.dst (and_parts (nat_eq h.version 1 && has_flag h.flags 0x8) (holds host.ports h.dst) hears).1 in
    let remote = place-of d.0.about.remotes.items h.src d.2 in
    let L : List Mac → Type 0 = λ l. slice_get l local.0 ≡ Some h.dst in
    let R : List Mac → Type 0 = λ l. slice_get l remote.0 ≡ Some h.src in
    absurd (never_so (local.0 * length d.0.paths.remotes + remote.0)
    (pair-of-number d.0.paths local.0 remote.0 _ h.dst h.src refl (subst L (sym has.locals) local.1) (subst R (sym has.remotes) remote.1)))

module _ {host : Host} {log : List Event} {frame : List ℕ} {h : Header} {t : Ticket} {at : ℕ} {p : Pending} {c : HostCommand}
    (x : HasFlyer host log frame h t at p c) where
  came-on : (path : PathNo) → is_from (slice_get host.devices p.device.0) p.op h ≡ true
      → IfSome (slice_get host.devices p.device.0) (λ d. pair_of d.paths path.0 ≡ Some (h.dst, h.src)) → CameOn host c frame path
  came-on path from on =
      let d = from-device (slice_get host.devices p.device.0) p.op h from in
      let has = has-paths host log p.device.0 d.0 x.matches d.1 in
      let pair = rw d.1 at on in
      record {
        header = h;
        read = x.read;
        device = d.0;
        there = rw (its-pending x).device d.1;
        pair = rw (← has.locals, ← has.remotes) pair;
      }

  -- the command that a frame answers
  pub found-answer : (path : PathNo) (a : Answer) → is_response_to host h ≡ true → is_from (slice_get host.devices p.device.0) p.op h ≡ true
      → IfSome (slice_get host.pending at) (λ q. IfSome (slice_get host.devices q.device.0) (λ d. pair_of d.paths path.0 ≡ Some (h.dst, h.src)))
      → answer p.op h (drop 24 frame) ≡ Some a
      → (y : HostCommand) × Contains (commands log) y × IfSome (slice_get host.pending at) (λ q. q.ticket ≡ y.ticket) × (answer_to host y frame ≡ Some a)
      × CameOn host y frame path
  found-answer path a hears from on given =
      let Q : Option Pending → Type 0 = λ o. IfSome o (λ q. q.ticket ≡ c.ticket) in
      let O : Option Pending → Type 0 = λ o. IfSome o (λ q. IfSome (slice_get host.devices q.device.0) (λ d. pair_of d.paths path.0 ≡ Some (h.dst, h.src))) in (
        c,
        x.flies.there,
        subst Q (sym x.there) (sym (its-pending x).ticket),
        answered-by host log frame h t p c a (its-pending x) x.flies x.read hears from given,
        came-on path from (subst O x.there on),
      )

-- what flies is found
pub flies-found : (tag : ℕ) (table : FlightTable) (t : Ticket) → option_map (λ (c : Outstanding). c.ticket) (find (flies_with tag) table.commands) ≡ Some t
    → IsSome (find (flies_as t.0) table.commands)
flies-found tag table t is = by_find (find (flies_with tag) table.commands) refl is
  where
    by_find : (o : Option Outstanding) → find (flies_with tag) table.commands ≡ o → option_map (λ (c : Outstanding). c.ticket) o ≡ Some t
        → IsSome (find (flies_as t.0) table.commands)
    by_find None none given = absurd cc
    by_find (Some c) some given =
        let found = find-there (flies_with tag) c table.commands some in
        let parts = and_parts (not c.finished) (nat_eq c.flying.tag tag) found.1 in
        let ticket : c.ticket ≡ t = cc in
        let same : nat_eq c.ticket.0 t.0 ≡ true = eq-eqb c.ticket.0 t.0 (ap (λ (u : Ticket). u.0) ticket) in
        let flies : flies_as t.0 c ≡ true = rw (parts.0, same) refl in
        find-flies (flies_as t.0) table.commands c found.0 flies
