-- What of a host's commands stays, and which of them are in conflict.
use Rattle.std.proofs.Common.{ℕ, suc, ◌<◌, ◌≤◌, ◌≡◌, inl, inr, nat_eq, Bool, true, false, ◌&&◌, ◌||◌, List, [], ◌∷◌, Option, Some, is_some, if◌then◌else◌, refl, sym, ap, ◌∙◌, arith}
use Rattle.std.specs.List.{find}
use Rattle.std.proofs.lemmas.Bool.{cases_Bool, eq-eqb, eqb-true}
use Rattle.std.proofs.lemmas.Bool.Decides.{nat_tests}
use Rattle.std.proofs.lemmas.Slice.Eq.{bytes_eq-Decides}
use Rattle.arrayvec.specs.ArrayVec.{ArrayVec}
use Rattle.aoe_base.specs.declared.address.TargetId.{TargetId}
use Rattle.aoe_base.specs.declared.sectors.Span.{Span}
use Rattle.aoe_base.specs.Spans.{overlap}
use Rattle.aoe_hold.specs.declared.command.Command.{Command}
use Rattle.aoe_hold.specs.declared.command.Stage.TheVariants.{Unsent}
use Rattle.aoe_hold.specs.Commands.{conflict}
use Rattle.aoe_initiator.specs.declared.op.Op.{Op}
use Rattle.aoe_initiator.specs.declared.op.Op.TheVariants.{Read, Write, Flush}
use Rattle.aoe_initiator.specs.declared.outcome.Outcome.{Outcome}
use Rattle.aoe_initiator.specs.declared.outcome.Outcome.TheVariants as outcome
use Rattle.aoe_initiator.specs.declared.response.Answer.{Answer}
use Rattle.aoe_initiator.specs.Host.{Host}
use Rattle.aoe_initiator.specs.HostLaw.{answer_to}
use Rattle.aoe_initiator.specs.HostLog.{HostCommand, Sending}
use Rattle.aoe_initiator.specs.Op.{kind_of, span_of}
use Rattle.aoe_initiator.proofs.ListLemmas.{Contains-map_from}
use Rattle.aoe_initiator.proofs.NameLemmas.{same-id}
use Rattle.aoe_target.specs.Sectors.{in_span, value_in}
use Rattle.aoe_history.specs.declared.entry.Entry.{Entry}
use Rattle.aoe_history.specs.declared.entry.Entry.TheVariants.{Submitted, Sent}
use Rattle.aoe_history.specs.Commands.{commands_of, host_after, submission, tickets, was_sent, writes, Submission}
use Rattle.aoe_history.specs.CommandView.{in_conflict, sends_of, upto, view, views, was_done, AsksAt}
use Rattle.aoe_history.specs.HostLaw.{IsAnswered, IsDone, IsSubmitted}
use Rattle.aoe_history.specs.Lawful.{HasHost}
use Rattle.aoe_history.specs.Setup.{device_no, host_called, is_called, HostSetup, Setup, SlotSetup}
use Rattle.aoe_history.proofs.LogicLemmas.{some-and}

-- what is known of a host's commands in each lawful history
pub record Order (s : Setup) (host : HostSetup) : Type 0 where
  pub list : (h : List Entry) → HasHost s host h → commands_of host h ≡ views host h
  pub bounds : (h : List Entry) → HasHost s host h → (c : ℕ) (x : Sending) → sends_of host h c ≡ Some x → (0 < c) × (c ≤ tickets host h)
  pub done : (h : List Entry) → HasHost s host h → (c : ℕ) → was_done host h c ≡ true → is_some (sends_of host h c) ≡ true
  pub order : (h : List Entry) → HasHost s host h → (c d : ℕ) → is_some (sends_of host h c) ≡ true → 0 < d → d < c
      → in_conflict host h d c ≡ true → was_done host h d ≡ true

-- NAMES

found : {X : Type 0} (p : X → Bool) (xs : List X) (x : X) → find p xs ≡ Some x → p x ≡ true
found p [] x e = absurd (cc)
found p (y ∷ xs) x e = elim (cases_Bool (p y)) [
  | inl own ↦ (let same : y ≡ x = (let is = rw own at e in cc) in rw (← same) own)
  | inr other ↦ found p xs x (rw other at e)
]

-- the host is the one that its name names
pub named : (s : Setup) (name : ArrayVec ℕ) (host : HostSetup) → host_called s name ≡ Some host → (other : ArrayVec ℕ)
    → is_called host other ≡ true → host_called s other ≡ Some host
named s name host e other mine =
    let a : host.name ≡ other.items = (bytes_eq-Decides host.name other.items).0 mine in
    let b : host.name ≡ name.items = (bytes_eq-Decides host.name name.items).0 (found (λ x. is_called x name) s.hosts host e) in
    rw (sym a ∙ b) e

-- SENDS

or-some : (b : Bool) (x : Sending) (o : Option Sending) (t : Bool) → t ≡ is_some o → (b || t) ≡ is_some (if b then Some x else o)
or-some b x o t e = grind arith

pub sent-same : (host : HostSetup) (h : List Entry) (c : ℕ) → was_sent host h c ≡ is_some (sends_of host h c)
sent-same host [] c = refl
sent-same host (Sent name t number f ∷ h) c = or-some _ _ _ _ (sent-same host h c)
sent-same host (_ ∷ h) c = sent-same host h c

pub some-there : {X : Type 0} (o : Option X) → is_some o ≡ true → (x : X) × (o ≡ Some x)
some-there o e = grind arith

-- CONFLICTS

pub record WritesTo (slot : SlotSetup) (o : Option Submission) (s : ℕ) (v : List ℕ) : Type 0 where
  pub at : ℕ
  pub bytes : List ℕ
  pub asks : AsksAt slot o (Write at bytes)
  pub inside : in_span (span_of (Write at bytes)) s ≡ true
  pub value : v ≡ value_in (span_of (Write at bytes)) bytes s

pub writes-to : (slot : SlotSetup) (o : Option Submission) (s : ℕ) (v : List ℕ) → writes slot o s ≡ Some v → WritesTo slot o s v
writes-to slot o s v e = grind arith

overlaps : (a b : Span) (s : ℕ) → in_span a s ≡ true → in_span b s ≡ true → overlap a b ≡ true
overlaps a b s p q = grind (arith, nat_tests)

-- a conflict of what two operations ask
abbrev entered : Op → Command
entered op = record { ticket = record { 0 = 0 }; kind = kind_of op; span = span_of op; stage = Unsent }

abbrev op_clash : Op → Op → Bool
op_clash x y = conflict (entered x) (entered y)

conflicts : (host : HostSetup) {slot : SlotSetup} (h : List Entry) (d c : ℕ) {a b : Op} → AsksAt slot (submission host h d) a
    → AsksAt slot (submission host h c) b → op_clash a b ≡ true → in_conflict host h d c ≡ true
conflicts host {slot} h d c p q e =
    grind (arith, same-id slot.station.id p.dev p.slot_is, same-id slot.station.id q.dev q.slot_is, eq-eqb (device_no host q.dev).0 _ refl)

module _ (host : HostSetup) (slot : SlotSetup) (h : List Entry) (sct d c : ℕ) where
  pub writes-clash : (v w : List ℕ) → writes slot (submission host h d) sct ≡ Some v → writes slot (submission host h c) sct ≡ Some w
      → in_conflict host h d c ≡ true
  writes-clash v w e f =
      let m = writes-to slot (submission host h d) sct v e in
      let n = writes-to slot (submission host h c) sct w f in
      conflicts host h d c m.asks n.asks (rw (overlaps _ _ sct m.inside n.inside) refl)

  pub read-clash : (span : Span) (w : List ℕ) → AsksAt slot (submission host h d) (Read span) → in_span span sct ≡ true
      → writes slot (submission host h c) sct ≡ Some w → in_conflict host h d c ≡ true
  read-clash span w asks inside f =
      let n = writes-to slot (submission host h c) sct w f in
      conflicts host h d c asks n.asks (rw (overlaps span _ sct inside n.inside) refl)

  pub write-read-clash : (v : List ℕ) (span : Span) → writes slot (submission host h d) sct ≡ Some v
      → AsksAt slot (submission host h c) (Read span) → in_span span sct ≡ true → in_conflict host h d c ≡ true
  write-read-clash v span e asks inside =
      let m = writes-to slot (submission host h d) sct v e in
      conflicts host h d c m.asks asks (rw (overlaps _ span sct m.inside inside) refl)

  pub write-flush-clash : (v : List ℕ) → writes slot (submission host h d) sct ≡ Some v
      → AsksAt slot (submission host h c) Flush → in_conflict host h d c ≡ true
  write-flush-clash v e asks =
      let m = writes-to slot (submission host h d) sct v e in
      conflicts host h d c m.asks asks (grind (arith, nat_tests))

-- ENTRIES

module _ {s : Setup} {host : HostSetup} (law : Order s host) where
  -- an earlier command in conflict with one that was sent is done
  pub earlier-done : {h : List Entry} → HasHost s host h → (d c : ℕ) → was_sent host h c ≡ true → was_sent host h d ≡ true → d < c
      → in_conflict host h d c ≡ true → was_done host h d ≡ true
  earlier-done {h} run d c sent sent_d lt co =
      let y = some-there (sends_of host h d) (sym (sent-same host h d) ∙ sent_d) in
      law.order h run c d (sym (sent-same host h c) ∙ sent) (law.bounds h run d y.0 y.1).0 lt co

  pub done-sent : {h : List Entry} → HasHost s host h → (c : ℕ) → was_done host h c ≡ true → was_sent host h c ≡ true
  done-sent {h} run c done = sent-same host h c ∙ law.done h run c done

  -- a command is acknowledged once
  flies : (x : Host) (c : HostCommand) (f : List ℕ) (a : Answer) → answer_to x c f ≡ Some a → c.done ≡ false
  flies x c f a e = grind (arith, nat_tests)

  answered-once : {h : List Entry} → HasHost s host h → (c : ℕ) (o : Outcome) → IsAnswered s host h c o → was_done host h c ≡ false
  answered-once {h} run c o x =
      let r = x.response in
      let there = rw (law.list h run) at r.there in
      let m = Contains-map_from (view host h) (upto (tickets host h)) r.command there in
      let free = flies (host_after s host h) r.command x.bytes r.answer r.says in
      let number : m.0 ≡ c = ap (λ (z : HostCommand). z.ticket.0) m.2 ∙ r.ticket_is in
      let is : was_done host h m.0 ≡ r.command.done = ap (λ (z : HostCommand). z.done) m.2 in
      rw number at (is ∙ free)

  pub written-once : {h : List Entry} → HasHost s host h → (c : ℕ) → IsDone s host h c outcome.Written → was_done host h c ≡ false
  written-once run c (inr late) = absurd (let e = late.gives in cc)
  written-once run c (inl x) = answered-once run c outcome.Written x

  pub read-once : {h : List Entry} → HasHost s host h → (c : ℕ) (bytes : List ℕ) → IsDone s host h c (outcome.Read bytes) → was_done host h c ≡ false
  read-once run c bytes (inr late) = absurd (let e = late.gives in cc)
  read-once run c bytes (inl x) = answered-once run c (outcome.Read bytes) x

  rest-of : (e : Entry) (h : List Entry) → HasHost s host (e ∷ h) → HasHost s host h
  rest-of e h run = record { setup = run.setup; name = run.name; called = run.called; lawful = run.lawful.1 }

  next-ticket : (name : ArrayVec ℕ) (t : ℕ) (dev : TargetId) (op : Op) (h : List Entry) → HasHost s host (Submitted name t dev op ∷ h)
      → is_called host name ≡ true → t ≡ suc (tickets host h)
  next-ticket name t dev op h run own =
      (some-and (λ z. IsSubmitted s z h t dev op) _ host (named s run.name host run.called name own) run.lawful.0).next

  -- a ticket up to the last is that of what was submitted, and no other is
  pub within : (h : List Entry) → HasHost s host h → (c : ℕ) (x : Submission) → submission host h c ≡ Some x → c ≤ tickets host h
  within [] run c x e = absurd (cc)
  within (Submitted name t dev op ∷ h) run c x e =
      let rest = rest-of (Submitted name t dev op) h run in
      let next = next-ticket name t dev op h run in
      elim (cases_Bool (is_called host name)) [
        | inl own ↦ elim (cases_Bool (nat_eq t c)) [
          | inl same ↦ (let n = next own in let is = eqb-true t c same in rw own (omega (arith, n, is)))
          | inr not ↦ (let le = within h rest c x (rw (own, not) at e) in rw own (omega (arith, le)))
        ]
        | inr other ↦ rw other (within h rest c x (rw other at e))
      ]
  within (y ∷ h) run c x e = within h (rest-of y h run) c x e

  pub submitted-there : (h : List Entry) → HasHost s host h → (c : ℕ) → 0 < c → c ≤ tickets host h → (x : Submission) × (submission host h c ≡ Some x)
  submitted-there [] run c above le = absurd (omega arith)
  submitted-there (Submitted name t dev op ∷ h) run c above le = elim (cases_Bool (is_called host name && nat_eq t c)) [
    | inl own ↦ (record { dev = dev; op = op }, rw own)
    | inr other ↦ (
        let next = next-ticket name t dev op h run in
        rw other (submitted-there h (rest-of (Submitted name t dev op) h run) c above (grind (arith, nat_tests))))
  ]
  submitted-there (y ∷ h) run c above le = submitted-there h (rest-of y h run) c above le
