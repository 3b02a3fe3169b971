-- The commands of a host that serves clients, in its history.
use Rattle.std.proofs.Common.{ℕ, zero, suc, ◌≡◌, ◌<◌, ◌⊎◌, true, false, List, [], ◌∷◌, ◌++◌, Option, Some, refl, subst, sym, ap, ◌∙◌, arith, inl, inr}
use Rattle.std.specs.Prelude.{slice_get}
use Rattle.std.proofs.lemmas.Bool.{cases_Bool, eq-eqb, or_right}
use Rattle.arrayvec.specs.ArrayVec.{ArrayVec}
use Rattle.aoe_base.specs.declared.address.TargetId.{TargetId}
use Rattle.aoe_base.specs.declared.counted.Ticket.{Ticket}
use Rattle.aoe_block.specs.Steps.{owns}
use Rattle.aoe_desk.specs.Runs.{Call, IsRun}
use Rattle.aoe_desk.specs.Runs.Call.{Takes}
use Rattle.aoe_initiator.specs.declared.device.Attached.{Attached}
use Rattle.aoe_initiator.specs.declared.op.Op.{Op}
use Rattle.aoe_initiator.specs.declared.op.Op.TheVariants as op
use Rattle.aoe_initiator.specs.declared.outcome.Done.{Done}
use Rattle.aoe_initiator.specs.declared.outcome.Outcome.{Outcome}
use Rattle.aoe_initiator.specs.declared.outcome.Outcome.TheVariants as outcome
use Rattle.aoe_initiator.specs.Op.{span_of}
use Rattle.aoe_target.specs.Sectors.{in_span, value_in}
use Rattle.aoe_history.specs.declared.entry.Entry.{Entry}
use Rattle.aoe_history.specs.declared.entry.Entry.TheVariants as entry
use Rattle.aoe_history.specs.Commands.{log_of, submission, writes, Submission}
use Rattle.aoe_history.specs.CommandView.{AsksAt, IsAskable}
use Rattle.aoe_history.specs.Lawful.{HasHost}
use Rattle.aoe_history.specs.Setup.{device_no, is_called, is_slot, HostSetup, Setup, SlotSetup}
use Rattle.aoe_desk.specs.declared.reply.Reply.{Reply}
use Rattle.aoe_nbd_serve.specs.Account.{ServeStep, Setting}
use Rattle.aoe_nbd_serve.specs.Deeds.{calls_of}
use Rattle.std.proofs.lemmas.List.{append_assoc}
use Rattle.aoe_nbd_law.specs.Clients.{outcomes_of, IsHostOf}
use Rattle.aoe_nbd_law.specs.Outcomes.{was_acknowledged, HasEnded, IsAcknowledged}
use Rattle.aoe_nbd_law.specs.Requests.{last_before, span_asked, Answers, Asked, IsCarriedOut, IsHanded, IsSettled, IsWritten}
use Rattle.aoe_nbd_law.proofs.CallLemmas.{handed-low, run-before}
use Rattle.aoe_nbd_law.proofs.OrderLemmas.{Order}
use Rattle.aoe_nbd_law.proofs.StepLemmas.{handed-log, settled-among, Among, InLog}
use Rattle.aoe_nbd_law.proofs.TraceLemmas.{carried-grows}
use Rattle.aoe_nbd_law.proofs.ValueLemmas.{one-less, submitted-one}

-- OUTCOMES

ends-more : (host : HostSetup) (e : Entry) (h : List Entry) (c : ℕ) (says : Outcome) → HasEnded host h c says → HasEnded host (e ∷ h) c says
ends-more host e h c says x = record { later = e ∷ x.later; name = x.name; earlier = x.earlier; order = ap (λ l. e ∷ l) x.order; own = x.own }

first-ended : (host : HostSetup) (name : ArrayVec ℕ) (c : ℕ) (says : Outcome) (h : List Entry) (done : Done) → is_called host name ≡ true
    → (Among (outcomes_of host h) done → HasEnded host h done.ticket.0 done.outcome)
    → Among (record { ticket = record { 0 = c }; outcome = says } ∷ outcomes_of host h) done → HasEnded host (entry.Done name c says ∷ h) done.ticket.0 done.outcome
first-ended host name c says h done mine rest (inl same) = rw (← same) (record { later = []; name = name; earlier = h; order = refl; own = mine })
first-ended host name c says h done mine rest (inr x) = ends-more host (entry.Done name c says) h done.ticket.0 done.outcome (rest x)

pub among-ended : (host : HostSetup) (h : List Entry) (done : Done) → Among (outcomes_of host h) done → HasEnded host h done.ticket.0 done.outcome
among-ended host [] done x = absurd x
among-ended host (entry.Done name c says ∷ h) done x = elim (cases_Bool (is_called host name)) [
  | inl mine ↦ first-ended host name c says h done mine (among-ended host h done) (rw mine at x)
  | inr other ↦ ends-more host (entry.Done name c says) h done.ticket.0 done.outcome (among-ended host h done (rw other at x))
]
among-ended host (e ∷ h) done x = ends-more host e h done.ticket.0 done.outcome (among-ended host h done x)

ended-acked : (host : HostSetup) (later : List Entry) (name : ArrayVec ℕ) (c : ℕ) (h : List Entry) → is_called host name ≡ true
    → was_acknowledged host (later ++ entry.Done name c outcome.Written ∷ h) c ≡ true
ended-acked host [] name c h mine = rw (mine, eq-eqb c c refl) refl
ended-acked host (entry.Done other t outcome.Written ∷ later) name c h mine = or_right _ _ (ended-acked host later name c h mine)
ended-acked host (entry.Done other t says ∷ later) name c h mine = ended-acked host later name c h mine
ended-acked host (e ∷ later) name c h mine = ended-acked host later name c h mine

pub acked : (host : HostSetup) (h : List Entry) (c : ℕ) → HasEnded host h c outcome.Written → was_acknowledged host h c ≡ true
acked host h c x = rw x.order (ended-acked host x.later x.name c x.earlier x.own)

-- SUBMISSIONS

module _ {s : Setup} {host : HostSetup} (law : Order s host) where
  first-asked : (name : ArrayVec ℕ) (c : ℕ) (dev : TargetId) (op : Op) (h : List Entry) → HasHost s host (entry.Submitted name c dev op ∷ h) → (t : Ticket) (o : Op)
      → is_called host name ≡ true → (InLog (log_of host h) t o → (x : Submission) × (submission host h t.0 ≡ Some x) × (x.op ≡ o))
      → ((record { 0 = c } ≡ t) × (op ≡ o)) ⊎ InLog (log_of host h) t o
      → (x : Submission) × (submission host (entry.Submitted name c dev op ∷ h) t.0 ≡ Some x) × (x.op ≡ o)
  first-asked name c dev op h run t o mine rest (inl y) = (record { dev = dev; op = op }, rw (mine, eq-eqb c t.0 (ap (λ (z : Ticket). z.0) y.0)) refl, y.1)
  first-asked name c dev op h run t o mine rest (inr x) =
      let r = rest x in (r.0, submitted-one law (entry.Submitted name c dev op) h run t.0 r.0 r.1, r.2)

  pub log-asked : (h : List Entry) → HasHost s host h → (t : Ticket) (o : Op) → InLog (log_of host h) t o
      → (x : Submission) × (submission host h t.0 ≡ Some x) × (x.op ≡ o)
  log-asked [] run t o x = absurd x
  log-asked (entry.Submitted name c dev op ∷ h) run t o x = elim (cases_Bool (is_called host name)) [
    | inl mine ↦ first-asked name c dev op h run t o mine (log-asked h (one-less (entry.Submitted name c dev op) h run) t o) (rw mine at x)
    | inr other ↦ rw other (log-asked h (one-less (entry.Submitted name c dev op) h run) t o (rw other at x))
  ]
  log-asked (entry.Sent name c number f ∷ h) run t o x = elim (cases_Bool (is_called host name)) [
    | inl mine ↦ log-asked h (one-less (entry.Sent name c number f) h run) t o (rw mine at x)
    | inr other ↦ log-asked h (one-less (entry.Sent name c number f) h run) t o (rw other at x)
  ]
  log-asked (entry.Done name c says ∷ h) run t o x = elim (cases_Bool (is_called host name)) [
    | inl mine ↦ log-asked h (one-less (entry.Done name c says) h run) t o (rw mine at x)
    | inr other ↦ log-asked h (one-less (entry.Done name c says) h run) t o (rw other at x)
  ]
  log-asked (entry.Ticked ms ∷ h) run t o x = log-asked h (one-less (entry.Ticked ms) h run) t o x
  log-asked (e ∷ h) run t o x = log-asked h (one-less e h run) t o x

-- the one device of a host
one-device : (about a : Attached) (n : ℕ) → slice_get (about ∷ []) n ≡ Some a → about ≡ a
one-device about a zero e = cc
one-device about a (suc n) e = absurd (cc)

pub writes-it : (slot : SlotSetup) (o : Option Submission) (at : ℕ) (bytes : List ℕ) (sct : ℕ) → AsksAt slot o (op.Write at bytes)
    → in_span (span_of (op.Write at bytes)) sct ≡ true → writes slot o sct ≡ Some (value_in (span_of (op.Write at bytes)) bytes sct)
writes-it slot o at bytes sct asks inside = rw (asks.is, asks.slot_is, inside) refl

-- TICKETS

pub carried-later : (total max : ℕ) (later calls : List Call) (t : Ticket) (o : Op) (says : Outcome) → IsCarriedOut total max calls t o says
    → IsCarriedOut total max (later ++ calls) t o says
carried-later total max [] calls t o says x = x
carried-later total max (call ∷ later) calls t o says x =
    carried-grows total max call (later ++ calls) t o says (carried-later total max later calls t o says x)

-- COMMANDS OF THE SERVER

module _ {s : Setup} {host : HostSetup} {slot : SlotSetup} {h : List Entry} {c : Setting} {steps : List ServeStep} (law : Order s host)
    (askable : (n : ℕ) (x : Submission) → submission host h n ≡ Some x → IsAskable host x) (v : IsHostOf s host slot h c steps) where
  abbrev calls : List Call
  calls = calls_of (owns steps)

  -- a command that was handed was submitted to the slot
  pub asks-at : (t : Ticket) (o : Op) → IsHanded c.terms.total c.terms.max calls t o → AsksAt slot (submission host h t.0) o
  asks-at t o handed =
      let x = log-asked law h v.lawful t o (rw (← v.log_is) at (handed-log c t o steps v.are handed)) in
      let k = askable t.0 x.0 x.1 in
      let its : v.about ≡ k.about = one-device v.about k.about (device_no host x.0.dev).0
      (ap (λ (ds : List Attached). slice_get ds (device_no host x.0.dev).0) (sym v.attached) ∙ k.place) in
      let id = ap (λ (a : Attached). a.id) its ∙ k.id in
      let at : is_slot slot x.0.dev ≡ true = ap (is_slot slot) (sym id) ∙ v.slot_is in
      let is : submission host h t.0 ≡ Some (record { dev = x.0.dev; op = o }) = x.1 ∙ ap (λ z. Some (with-op x.0.dev z)) x.2 in
      record { dev = x.0.dev; is = is; slot_is = at }
    where
      with-op : TargetId → Op → Submission
      with-op dev op = record { dev = dev; op = op }

  pub has-ended : (t : Ticket) (says : Outcome) → IsSettled calls (record { ticket = t; outcome = says }) → HasEnded host h t.0 says
  has-ended t says settled =
      let done : Done = record { ticket = t; outcome = says } in
      among-ended host h done (rw (← v.outcomes_are) at (settled-among c done steps v.are settled))

  pub wrote-own : (since : ℕ) (a : Asked) (sct : ℕ) → (z : IsWritten c.terms.total c.terms.max calls since a sct)
      → writes slot (submission host h z.ticket.0) sct ≡ Some (value_in (span_asked a) a.bytes sct)
  wrote-own since a sct z =
      writes-it slot (submission host h z.ticket.0) z.at z.bytes sct (asks-at z.ticket (op.Write z.at z.bytes) z.carried_out.handed) z.inside ∙ ap Some (sym z.same)

  module _ {reply earlier : Reply} (sct : ℕ) (x : Answers c.terms.total c.terms.max calls reply)
      (y : Answers c.terms.total c.terms.max x.come.earlier earlier) (writes-y : y.asked.reads ≡ false)
      (inside-y : in_span (span_asked y.asked) sct ≡ true) where
    abbrev pub w : IsWritten c.terms.total c.terms.max x.come.earlier (last_before y.come) y.asked sct
    w = y.written writes-y sct inside-y

    split : calls ≡ (x.come.later ++ Takes x.come.request ∷ []) ++ x.come.earlier
    split = x.come.order ∙ sym (append_assoc x.come.later (Takes x.come.request ∷ []) x.come.earlier)

    out : IsCarriedOut c.terms.total c.terms.max calls w.ticket (op.Write w.at w.bytes) outcome.Written
    out = subst (λ l. IsCarriedOut c.terms.total c.terms.max l w.ticket (op.Write w.at w.bytes) outcome.Written) (sym split)
        (carried-later c.terms.total c.terms.max (x.come.later ++ Takes x.come.request ∷ []) x.come.earlier w.ticket (op.Write w.at w.bytes) outcome.Written w.carried_out)

    pub wrote : writes slot (submission host h w.ticket.0) sct ≡ Some (value_in (span_asked y.asked) y.asked.bytes sct)
    wrote = writes-it slot (submission host h w.ticket.0) w.at w.bytes sct (asks-at w.ticket (op.Write w.at w.bytes) out.handed) w.inside
        ∙ ap Some (sym w.same)

    pub acknowledged : IsAcknowledged host slot h sct w.ticket.0
    acknowledged = record {
      value = value_in (span_asked y.asked) y.asked.bytes sct;
      writes_it = wrote;
      acknowledged = acked host h w.ticket.0 (has-ended w.ticket outcome.Written out.settled);
    }

    -- it was submitted before any command for the later request
    pub earlier-ticket : (t : Ticket) → last_before x.come < t.0 → w.ticket.0 < t.0
    earlier-ticket t lt =
        let run = run-before c.terms.total c.terms.max (x.come.later ++ Takes x.come.request ∷ []) x.come.earlier (subst (λ l. IsRun c.terms.total c.terms.max l) split v.run) in
        let le = handed-low c.terms.total c.terms.max x.come.earlier w.ticket (op.Write w.at w.bytes) run w.carried_out.handed in
        omega (arith, le, lt)
