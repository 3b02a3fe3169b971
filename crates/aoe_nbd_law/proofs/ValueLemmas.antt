-- Which values may be read of a sector, and what a flush leaves.
use Rattle.std.proofs.Common.{ℕ, ◌<◌, ◌≤◌, ◌≡◌, inl, inr, nat_eq, Bool, true, false, not, ◌&&◌, List, [], ◌∷◌, ◌++◌, Option, Some, None, is_some, if◌then◌else◌, refl, sym, ap, ◌∙◌, arith, Contains}
use Rattle.std.proofs.lemmas.Bool.{and_parts, cases_Bool, cases_order, eq-eqb, eqb-true, false_from_ne_true, not-true, or_parts, or_right}
use Rattle.std.proofs.lemmas.List.{append_assoc}
use Rattle.std.proofs.lemmas.Bool.Decides.{nat_tests}
use Rattle.arrayvec.specs.ArrayVec.{ArrayVec}
use Rattle.aoe_base.specs.declared.address.TargetId.{TargetId}
use Rattle.aoe_base.specs.declared.sectors.Span.{Span}
use Rattle.aoe_disk.specs.declared.loss.Loss.{Loss}
use Rattle.aoe_lists.specs.Settings.{Settings}
use Rattle.aoe_initiator.specs.declared.op.Op.{Op}
use Rattle.aoe_initiator.specs.declared.op.Op.TheVariants.{Read, Flush}
use Rattle.aoe_initiator.specs.declared.outcome.Outcome.TheVariants as outcome
use Rattle.aoe_target.specs.Sectors.{in_span, value_in}
use Rattle.aoe_history.specs.declared.entry.Entry.{Entry}
use Rattle.aoe_history.specs.declared.entry.Entry.TheVariants.{Submitted, Sent, Arrived, Done, Crashed}
use Rattle.aoe_history.specs.Commands.{submission, tickets, was_sent, writes, Submission}
use Rattle.aoe_history.specs.CommandView.{sends_of, was_done, AsksAt}
use Rattle.aoe_history.specs.HostLaw.{IsDone, IsSubmitted}
use Rattle.aoe_history.specs.Lawful.{HasHost, IsLawful}
use Rattle.aoe_history.specs.Reading.{allowed, alone, also, is_first, only, safe, spoiled, unless_written, HasReadLaw, IsAllowed, IsIn, ReadsAllowed}
use Rattle.aoe_history.specs.Setup.{host_called, is_called, HostSetup, IsSetup, Setup, SlotSetup}
use Rattle.aoe_history.proofs.LogicLemmas.{some-and}
use Rattle.aoe_nbd_law.specs.Outcomes.{has_fault, is_sure, was_acknowledged, IsLastWriteBefore, IsWriteSince}
use Rattle.aoe_nbd_law.proofs.OrderLemmas.{done-sent, earlier-done, named, read-clash, read-once, sent-same, some-there, submitted-there, within, write-flush-clash, write-read-clash, writes-clash, written-once, Order}

-- IN DOUBT

-- what may be read of a spoiled sector is any value
pub spoiled-any : (host : HostSetup) (slot : SlotSetup) (h : List Entry) (sct : ℕ) → spoiled host slot h sct ≡ true → allowed host slot h sct ≡ None
spoiled-any host slot [] sct e = absurd (cc)
spoiled-any host slot (Sent name c number f ∷ h) sct e = let rest = spoiled-any host slot h sct in grind (arith, rest)
spoiled-any host slot (Done name c outcome.Written ∷ h) sct e = let rest = spoiled-any host slot h sct e in grind (arith, rest)
spoiled-any host slot (Arrived dev k fate ∷ h) sct e = let rest = spoiled-any host slot h sct in grind (arith, rest)
spoiled-any host slot (Crashed dev lists how ∷ h) sct e = let rest = spoiled-any host slot h sct in grind (arith, rest)
spoiled-any host slot (Done name c o ∷ h) sct e = spoiled-any host slot h sct e
spoiled-any host slot (_ ∷ h) sct e = spoiled-any host slot h sct e

-- LATER ENTRIES

pub one-less : {s : Setup} {host : HostSetup} (e : Entry) (h : List Entry) → HasHost s host (e ∷ h) → HasHost s host h
one-less e h run = record { setup = run.setup; name = run.name; called = run.called; lawful = run.lawful.1 }

pub before-it : {s : Setup} {host : HostSetup} (later h : List Entry) → HasHost s host (later ++ h) → HasHost s host h
before-it [] h run = run
before-it (e ∷ later) h run = before-it later h (one-less e (later ++ h) run)

alone-one : (host : HostSetup) (slot : SlotSetup) (e : Entry) (h : List Entry) (sct : ℕ) → alone host slot (e ∷ h) sct ≡ true → alone host slot h sct ≡ true
alone-one host slot (Arrived dev k fate) h sct al = grind arith
alone-one host slot _ h sct al = al

pub alone-before : (host : HostSetup) (slot : SlotSetup) (later : List Entry) (h : List Entry) (sct : ℕ) → alone host slot (later ++ h) sct ≡ true
    → alone host slot h sct ≡ true
alone-before host slot [] h sct al = al
alone-before host slot (e ∷ later) h sct al = alone-before host slot later h sct (alone-one host slot e (later ++ h) sct al)

sent-one : (host : HostSetup) (e : Entry) (h : List Entry) (c : ℕ) → was_sent host h c ≡ true → was_sent host (e ∷ h) c ≡ true
sent-one host (Sent name t number f) h c sent = or_right _ _ sent
sent-one host _ h c sent = sent

pub sent-later : (host : HostSetup) (later h : List Entry) (c : ℕ) → was_sent host h c ≡ true → was_sent host (later ++ h) c ≡ true
sent-later host [] h c sent = sent
sent-later host (e ∷ later) h c sent = sent-one host e (later ++ h) c (sent-later host later h c sent)

done-one : (host : HostSetup) (e : Entry) (h : List Entry) (c : ℕ) → was_done host h c ≡ true → was_done host (e ∷ h) c ≡ true
done-one host (Done name t o) h c done = or_right _ _ done
done-one host _ h c done = done

pub done-later : (host : HostSetup) (later h : List Entry) (c : ℕ) → was_done host h c ≡ true → was_done host (later ++ h) c ≡ true
done-later host [] h c done = done
done-later host (e ∷ later) h c done = done-one host e (later ++ h) c (done-later host later h c done)

pub done-by : (host : HostSetup) (h : List Entry) (c : ℕ) → was_acknowledged host h c ≡ true → was_done host h c ≡ true
done-by host [] c e = absurd (cc)
done-by host (Done name t outcome.Written ∷ h) c e = elim (cases_Bool (is_called host name && nat_eq t c)) [
  | inl mine ↦ rw mine refl
  | inr other ↦ or_right _ _ (done-by host h c (rw other at e))
]
done-by host (Done name t o ∷ h) c e = or_right _ _ (done-by host h c e)
done-by host (_ ∷ h) c e = done-by host h c e

module _ {s : Setup} {host : HostSetup} (law : Order s host) where
  pub submitted-one : (e : Entry) (h : List Entry) → HasHost s host (e ∷ h) → (c : ℕ) (x : Submission) → submission host h c ≡ Some x
      → submission host (e ∷ h) c ≡ Some x
  submitted-one (Submitted name t dev op) h run c x e =
      let le = within law h (one-less (Submitted name t dev op) h run) c x e in
      elim (cases_Bool (is_called host name && nat_eq t c)) [
        | inl own ↦ absurd (
            let p = and_parts _ _ own in
            let next = (some-and (λ z. IsSubmitted s z h t dev op) _ host (named s run.name host run.called name p.0) run.lawful.0).next in
            let same = eqb-true t c p.1 in
            omega (arith, le, next, same))
        | inr other ↦ rw other e
      ]
  submitted-one _ h run c x e = e

  pub submitted-later : (later h : List Entry) → HasHost s host (later ++ h) → (c : ℕ) (x : Submission) → submission host h c ≡ Some x
      → submission host (later ++ h) c ≡ Some x
  submitted-later [] h run c x e = e
  submitted-later (entry ∷ later) h run c x e =
      submitted-one entry (later ++ h) run c x (submitted-later later h (one-less entry (later ++ h) run) c x e)

  -- what was sent was submitted, and is asked for ever after
  pub sent-asked : (h : List Entry) → HasHost s host h → (c : ℕ) → was_sent host h c ≡ true → (x : Submission) × (submission host h c ≡ Some x)
  sent-asked h run c sent =
      let y = some-there (sends_of host h c) (sym (sent-same host h c) ∙ sent) in
      let b = law.bounds h run c y.0 y.1 in
      submitted-there law h run c b.0 b.1

  pub asked-later : (later h : List Entry) → HasHost s host (later ++ h) → (c : ℕ) → was_sent host h c ≡ true
      → submission host (later ++ h) c ≡ submission host h c
  asked-later later h run c sent =
      let x = sent-asked h (before-it later h run) c sent in
      submitted-later later h run c x.0 x.1 ∙ sym x.1

  pub sent-above : (h : List Entry) → HasHost s host h → (c : ℕ) → was_sent host h c ≡ true → (0 < c) × (c ≤ tickets host h)
  sent-above h run c sent =
      let y = some-there (sends_of host h c) (sym (sent-same host h c) ∙ sent) in law.bounds h run c y.0 y.1

  -- what was acknowledged, and was done by then, was acknowledged then
  written-one : (e : Entry) (h : List Entry) → HasHost s host (e ∷ h) → (c : ℕ) → was_acknowledged host (e ∷ h) c ≡ true → was_done host h c ≡ true
      → was_acknowledged host h c ≡ true
  written-one (Done name t outcome.Written) h run c e done = elim (cases_Bool (is_called host name && nat_eq t c)) [
    | inl own ↦ absurd (
        let p = and_parts _ _ own in
        let same = eqb-true t c p.1 in
        let ends = some-and (λ z. IsDone s z h t outcome.Written) _ host (named s run.name host run.called name p.0) run.lawful.0 in
        let free = written-once law (one-less (Done name t outcome.Written) h run) t ends in
        let again : was_done host h t ≡ true = ap (was_done host h) same ∙ done in
        cc)
    | inr other ↦ rw other at e
  ]
  written-one _ h run c e done = e

  pub written-before : (later h : List Entry) → HasHost s host (later ++ h) → (c : ℕ) → was_acknowledged host (later ++ h) c ≡ true
      → was_done host h c ≡ true → was_acknowledged host h c ≡ true
  written-before [] h run c e done = e
  written-before (entry ∷ later) h run c e done =
      written-before later h (one-less entry (later ++ h) run) c (written-one entry (later ++ h) run c e (done-later host later h c done)) done

-- WHAT MAY BE READ

-- a write of the sector that was sent, and is none earlier than this one, with its value
pub record IsLater (host : HostSetup) (slot : SlotSetup) (h : List Entry) (sct w : ℕ) (v : List ℕ) : Type 0 where
  pub ticket : ℕ
  pub since : w ≤ ticket
  pub sent : was_sent host h ticket ≡ true
  pub writes_it : writes slot (submission host h ticket) sct ≡ Some v

abbrev AllLater : HostSetup → SlotSetup → List Entry → ℕ → ℕ → Option (List (List ℕ)) → Type 0
AllLater host slot h sct w None = Unit {0}
AllLater host slot h sct w (Some vs) = (v : List ℕ) → IsIn v vs → IsLater host slot h sct w v

module _ {s : Setup} {host : HostSetup} (law : Order s host) (slot : SlotSetup) (sct w : ℕ) where
  abbrev wr : List Entry → ℕ → Option (List ℕ)
  wr h c = writes slot (submission host h c) sct

  lift : (e : Entry) (h : List Entry) → HasHost s host (e ∷ h) → (v : List ℕ) → IsLater host slot h sct w v → IsLater host slot (e ∷ h) sct w v
  lift e h run v x = record {
    ticket = x.ticket;
    since = x.since;
    sent = sent-one host e h x.ticket x.sent;
    writes_it = ap (λ o. writes slot o sct) (asked-later law (e ∷ []) h run x.ticket x.sent) ∙ x.writes_it;
  }

  all-lift : (e : Entry) (h : List Entry) → HasHost s host (e ∷ h) → (o : Option (List (List ℕ))) → AllLater host slot h sct w o
      → AllLater host slot (e ∷ h) sct w o
  all-lift e h run None all = tt
  all-lift e h run (Some vs) all = λ v in_it. lift e h run v (all v in_it)

  unless : (e : Entry) (h : List Entry) → HasHost s host (e ∷ h) → (t : Bool) (o : Option (List (List ℕ))) → AllLater host slot h sct w o
      → AllLater host slot (e ∷ h) sct w (if t then None else o)
  unless e h run true o all = tt
  unless e h run false o all = all-lift e h run o all

  -- it was written before one more entry, where it was acknowledged before it
  written-then : (e : Entry) (h : List Entry) → HasHost s host (e ∷ h) → was_acknowledged host h w ≡ true → wr (e ∷ h) w ≡ wr h w
  written-then e h run ack =
      let sent = done-sent law (one-less e h run) w (done-by host h w ack) in
      ap (λ o. writes slot o sct) (asked-later law (e ∷ []) h run w sent)

  abbrev Kept : List Entry → Type 0
  Kept h = (v0 : List ℕ) → wr h w ≡ Some v0 → was_acknowledged host h w ≡ true → AllLater host slot h sct w (allowed host slot h sct)

  -- a first frame of a write: it is later than what was acknowledged
  first-later : (name : ArrayVec ℕ) (c number : ℕ) (f : List ℕ) (h : List Entry) → HasHost s host (Sent name c number f ∷ h)
      → is_called host name ≡ true → was_sent host h c ≡ false → (v v0 : List ℕ) → wr h c ≡ Some v → wr h w ≡ Some v0
      → was_acknowledged host h w ≡ true → w ≤ c
  first-later name c number f h run own unsent v v0 wc ww ack = elim (cases_order w c) [
    | inl same ↦ rw same (omega arith)
    | inr (inl lt) ↦ omega (arith, lt)
    | inr (inr lt) ↦ absurd (
        let before = one-less (Sent name c number f) h run in
        let sent = done-sent law before w (done-by host h w ack) in
        let above = sent-above law (Sent name c number f ∷ h) run c (rw (own, eq-eqb c c refl) refl) in
        let done = law.order h before w c (sym (sent-same host h w) ∙ sent) above.0 lt (writes-clash host slot h sct c w v v0 wc ww) in
        let again = done-sent law before c done in
        cc)
  ]

  sent-kept : (name : ArrayVec ℕ) (c number : ℕ) (f : List ℕ) (h : List Entry) → HasHost s host (Sent name c number f ∷ h) → Kept h
      → (v0 : List ℕ) → wr h w ≡ Some v0 → was_acknowledged host h w ≡ true
      → (t : Bool) → is_first (is_called host name) (was_sent host h c) ≡ t → (o : Option (List ℕ)) → wr h c ≡ o
      → (before : Option (List (List ℕ))) → AllLater host slot h sct w before
      → AllLater host slot (Sent name c number f ∷ h) sct w (if t then also o before else before)
  sent-kept name c number f h run kept v0 ww ack false first o wc before all = all-lift (Sent name c number f) h run before all
  sent-kept name c number f h run kept v0 ww ack true first None wc before all = all-lift (Sent name c number f) h run before all
  sent-kept name c number f h run kept v0 ww ack true first (Some v) wc None all = tt
  sent-kept name c number f h run kept v0 ww ack true first (Some v) wc (Some vs) all = new
    where
      n : List Entry
      n = Sent name c number f ∷ h

      p : (is_called host name ≡ true) × (not (was_sent host h c) ≡ true)
      p = and_parts _ _ first

      its : IsLater host slot (Sent name c number f ∷ h) sct w v
      its = record {
        ticket = c;
        since = first-later name c number f h run p.0 (not-true _ p.1) v v0 wc ww ack;
        sent = rw (p.0, eq-eqb c c refl) refl;
        writes_it = wc;
      }

      new : (x : List ℕ) → IsIn x (v ∷ vs) → IsLater host slot (Sent name c number f ∷ h) sct w x
      new x (inl same) = rw same its
      new x (inr in_it) = lift (Sent name c number f) h run x (all x in_it)

  -- an acknowledgement
  done-later-one : (name : ArrayVec ℕ) (c : ℕ) (h : List Entry) → HasHost s host (Done name c outcome.Written ∷ h)
      → is_called host name ≡ true → (v v0 : List ℕ) → wr h c ≡ Some v → wr h w ≡ Some v0
      → was_acknowledged host (Done name c outcome.Written ∷ h) w ≡ true → w ≤ c
  done-later-one name c h run own v v0 wc ww ack = elim (cases_order w c) [
    | inl same ↦ rw same (omega arith)
    | inr (inl lt) ↦ omega (arith, lt)
    | inr (inr lt) ↦ absurd (
        let before = one-less (Done name c outcome.Written) h run in
        let differs : nat_eq c w ≡ false = grind (arith, nat_tests) in
        let earlier : was_acknowledged host h w ≡ true = rw (own, differs) at ack in
        let sent = done-sent law before w (done-by host h w earlier) in
        let sent_c = done-sent law run c (rw (own, eq-eqb c c refl) refl) in
        let done = earlier-done law before c w sent sent_c lt (writes-clash host slot h sct c w v v0 wc ww) in
        let ends = some-and (λ z. IsDone s z h c outcome.Written) _ host (named s run.name host run.called name own) run.lawful.0 in
        let free = written-once law before c ends in
        cc)
  ]

  only-it : (name : ArrayVec ℕ) (c : ℕ) (h : List Entry) → HasHost s host (Done name c outcome.Written ∷ h)
      → (v0 : List ℕ) → wr h w ≡ Some v0 → was_acknowledged host (Done name c outcome.Written ∷ h) w ≡ true
      → is_called host name ≡ true → (v : List ℕ) → wr h c ≡ Some v
      → (x : List ℕ) → IsIn x (v ∷ []) → IsLater host slot (Done name c outcome.Written ∷ h) sct w x
  only-it name c h run v0 ww ack own v wc x (inl same) = rw same (record {
    ticket = c;
    since = done-later-one name c h run own v v0 wc ww ack;
    sent = done-sent law run c (rw (own, eq-eqb c c refl) refl);
    writes_it = wc;
  })
  only-it name c h run v0 ww ack own v wc x (inr none) = absurd none

  done-kept : (name : ArrayVec ℕ) (c : ℕ) (h : List Entry) → HasHost s host (Done name c outcome.Written ∷ h) → Kept h
      → (v0 : List ℕ) → wr h w ≡ Some v0 → was_acknowledged host (Done name c outcome.Written ∷ h) w ≡ true
      → (t : Bool) → (is_called host name && not (spoiled host slot h sct)) ≡ t → (o : Option (List ℕ)) → wr h c ≡ o
      → AllLater host slot (Done name c outcome.Written ∷ h) sct w (if t then only o (allowed host slot h sct) else allowed host slot h sct)
  done-kept name c h run kept v0 ww ack true e (Some v) wc = λ x. only-it name c h run v0 ww ack (and_parts _ _ e).0 v wc x
  done-kept name c h run kept v0 ww ack true e None wc =
      let differs : nat_eq c w ≡ false = false_from_ne_true _ (λ same. let z = ap (wr h) (eqb-true c w same) in cc (z, wc, ww)) in
      let own : is_called host name ≡ true = (and_parts _ _ e).0 in
      all-lift (Done name c outcome.Written) h run _ (kept v0 ww (rw (own, differs) at ack))
  done-kept name c h run kept v0 ww ack false e o wc = elim (cases_Bool (is_called host name)) [
    | inl own ↦ (let sp : spoiled host slot h sct ≡ true = grind arith in rw (spoiled-any host slot h sct sp) tt)
    | inr other ↦ all-lift (Done name c outcome.Written) h run _ (kept v0 ww (rw other at ack))
  ]

  pub kept : (h : List Entry) → HasHost s host h → Kept h
  kept [] run v0 ww ack = absurd (cc)
  kept (Submitted name c dev op ∷ h) run v0 ww ack =
      let e = Submitted name c dev op in
      all-lift e h run _ (kept h (one-less e h run) v0 (sym (written-then e h run ack) ∙ ww) ack)
  kept (Sent name c number f ∷ h) run v0 ww ack =
      let before = one-less (Sent name c number f) h run in
      sent-kept name c number f h run (kept h before) v0 ww ack _ refl _ refl _ (kept h before v0 ww ack)
  kept (Done name c outcome.Written ∷ h) run v0 ww ack =
      done-kept name c h run (kept h (one-less (Done name c outcome.Written) h run)) v0 ww ack _ refl _ refl
  kept (Done name c o ∷ h) run v0 ww ack =
      let e = Done name c o in
      all-lift e h run _ (kept h (one-less e h run) v0 ww ack)
  kept (Arrived dev k fate ∷ h) run v0 ww ack =
      let e = Arrived dev k fate in
      unless e h run _ _ (kept h (one-less e h run) v0 ww ack)
  kept (Crashed dev lists how ∷ h) run v0 ww ack =
      let e = Crashed dev lists how in
      unless e h run _ _ (kept h (one-less e h run) v0 ww ack)
  kept (e ∷ h) run v0 ww ack = all-lift e h run _ (kept h (one-less e h run) v0 ww ack)

-- WHAT A READ GIVES

in-values : {host : HostSetup} {slot : SlotSetup} {h : List Entry} {sct w : ℕ} (v : List ℕ) (o : Option (List (List ℕ))) → is_some o ≡ true
    → IsAllowed (Some v) o → AllLater host slot h sct w o → IsLater host slot h sct w v
in-values v None sure may all = absurd (cc)
in-values v (Some vs) sure may all = all v may

read-writes-none : (slot : SlotSetup) (o : Option Submission) (span : Span) (sct : ℕ) (v : List ℕ) → AsksAt slot o (Read span) → writes slot o sct ≡ Some v → ⊥
read-writes-none slot o span sct v asks e = let none = rw (asks.is, asks.slot_is) at e in cc

flush-writes-none : (slot : SlotSetup) (o : Option Submission) (sct : ℕ) (v : List ℕ) → AsksAt slot o Flush → writes slot o sct ≡ Some v → ⊥
flush-writes-none slot o sct v asks e = let none = rw (asks.is, asks.slot_is) at e in cc

asks-same : {slot : SlotSetup} {o p : Option Submission} {op : Op} → o ≡ p → AsksAt slot o op → AsksAt slot p op
asks-same e asks = rw (← e) asks

module _ {s : Setup} {host : HostSetup} (law : Order s host) (reads : (h : List Entry) → IsSetup s → IsLawful s h → HasReadLaw s h) (slot : SlotSetup)
    (there : Contains s.slots slot) (sct c w : ℕ) (span : Span) (bytes : List ℕ) (later : List Entry) (name : ArrayVec ℕ) (h : List Entry)
    (run : HasHost s host (later ++ Done name c (outcome.Read bytes) ∷ h)) (own : is_called host name ≡ true) where
  abbrev all : List Entry
  all = later ++ Done name c (outcome.Read bytes) ∷ h

  abbrev now : List Entry
  now = Done name c (outcome.Read bytes) ∷ h

  run-now : HasHost s host now
  run-now = before-it later now run

  run-before : HasHost s host h
  run-before = one-less (Done name c (outcome.Read bytes)) h run-now

  named-host : host_called s name ≡ Some host
  named-host = named s run.name host run.called name own

  sent-c : was_sent host h c ≡ true
  sent-c = done-sent law run-now c (rw (own, eq-eqb c c refl) refl)

  undone-c : was_done host h c ≡ false
  undone-c = read-once law run-before c bytes (some-and (λ z. IsDone s z h c (outcome.Read bytes)) _ host named-host run-now.lawful.0)

  asked-c : submission host all c ≡ submission host h c
  asked-c = asked-later law later now run c sent-c

  may-read : AsksAt slot (submission host all c) (Read span) → in_span span sct ≡ true → alone host slot all sct ≡ true
      → IsAllowed (Some (value_in span bytes sct)) (allowed host slot h sct)
  may-read asks inside al =
      let here = asks-same asked-c asks in
      let keeps = (reads now run-now.setup run-now.lawful).0 host slot named-host there in
      let may : ReadsAllowed host slot h (Some (record { dev = here.dev; op = Read span })) bytes = rw here.is at keeps in
      may span sct refl here.slot_is inside (alone-before host slot (later ++ Done name c (outcome.Read bytes) ∷ []) h sct (rw (append_assoc later (Done name c (outcome.Read bytes) ∷ []) h) al))

  -- a write that was submitted before the read was done before it was read
  done-before : (v0 : List ℕ) → writes slot (submission host all w) sct ≡ Some v0 → was_acknowledged host all w ≡ true → w < c
      → AsksAt slot (submission host all c) (Read span) → in_span span sct ≡ true
      → (writes slot (submission host h w) sct ≡ Some v0) × (was_acknowledged host h w ≡ true)
  done-before v0 ww ack lt asks inside =
      let above-w = sent-above law all run w (done-sent law run w (done-by host all w ack)) in
      let above-c = sent-above law h run-before c sent-c in
      let x = submitted-there law h run-before w above-w.0 (let le = above-c.1 in omega (arith, lt, le)) in
      let same = submitted-later law later now run w x.0 x.1 ∙ sym x.1 in
      let here : writes slot (submission host h w) sct ≡ Some v0 = ap (λ o. writes slot o sct) (sym same) ∙ ww in
      let done = law.order h run-before c w (sym (sent-same host h c) ∙ sent-c) above-w.0 lt
      (write-read-clash host slot h sct w c v0 span here (asks-same asked-c asks) inside) in
      let first = written-before law later now run w ack (done-one host (Done name c (outcome.Read bytes)) h w done) in
      (here, written-one law (Done name c (outcome.Read bytes)) h run-now w first done)

  pub read-gives : (v0 : List ℕ) → AsksAt slot (submission host all c) (Read span) → in_span span sct ≡ true → alone host slot all sct ≡ true
      → is_some (allowed host slot h sct) ≡ true → writes slot (submission host all w) sct ≡ Some v0 → was_acknowledged host all w ≡ true → w < c
      → IsWriteSince host slot all sct w c (value_in span bytes sct)
  read-gives v0 asks inside al sure ww ack lt =
      let d = done-before v0 ww ack lt asks inside in
      let x = in-values (value_in span bytes sct) (allowed host slot h sct) sure (may-read asks inside al) (kept law slot sct w h run-before v0 d.0 d.1) in
      let same : submission host all x.ticket ≡ submission host h x.ticket = asked-later law later now run x.ticket x.sent in
      let here = asks-same asked-c asks in
      record {
        ticket = x.ticket;
        since_it = x.since;
        before_it = elim (cases_order x.ticket c) [
          | inl is ↦ absurd (read-writes-none slot (submission host h c) span sct _ here (rw is at x.writes_it))
          | inr (inl lt) ↦ lt
          | inr (inr lt) ↦ absurd (
              let done = earlier-done law run-before c x.ticket x.sent sent-c lt (read-clash host slot h sct c x.ticket span _ here inside x.writes_it) in
              cc (done, undone-c))
        ];
        writes_it = ap (λ o. writes slot o sct) same ∙ x.writes_it;
      }

-- WHAT A FLUSH LEAVES

pub crash-keeps : (host : HostSetup) (slot : SlotSetup) (h : List Entry) (sct : ℕ) (dev : TargetId) (lists : Settings) (how : Loss)
    → safe host slot h sct ≡ true → allowed host slot (Crashed dev lists how ∷ h) sct ≡ allowed host slot h sct
crash-keeps host slot h sct dev lists how is = grind arith

module _ {s : Setup} {host : HostSetup} (law : Order s host) (slot : SlotSetup) (sct c : ℕ) (name : ArrayVec ℕ) (h : List Entry)
    (own : is_called host name ≡ true) where
  abbrev flushed : List Entry
  flushed = Done name c outcome.Flushed ∷ h

  sent-flush : HasHost s host flushed → was_sent host h c ≡ true
  sent-flush run = done-sent law run c (rw (own, eq-eqb c c refl) refl)

  -- no write of the sector is sent for the first time behind it
  not-first : (other : ArrayVec ℕ) (t number : ℕ) (f : List ℕ) (later : List Entry) → HasHost s host (Sent other t number f ∷ later ++ flushed)
      → AsksAt slot (submission host (later ++ flushed) c) Flush
      → (c < t → writes slot (submission host (later ++ flushed) t) sct ≡ None)
      → is_called host other ≡ true → was_sent host (later ++ flushed) t ≡ false
      → (v : List ℕ) → writes slot (submission host (later ++ flushed) t) sct ≡ Some v → ⊥
  not-first other t number f later run asks none mine unsent v wt =
      let n = later ++ flushed in
      let before = one-less (Sent other t number f) n run in
      let was = sent-later host later flushed c (sent-flush (before-it later flushed before)) in
      elim (cases_order c t) [
        | inl same ↦ flush-writes-none slot (submission host n c) sct v asks (ap (λ x. writes slot (submission host n x) sct) same ∙ wt)
        | inr (inl lt) ↦ (let e = none lt in cc)
        | inr (inr lt) ↦ (
            let above = sent-above law (Sent other t number f ∷ n) run t (rw (mine, eq-eqb t t refl) refl) in
            let done = law.order n before c t (sym (sent-same host n c) ∙ was) above.0 lt (write-flush-clash host slot n sct t c v wt asks) in
            let again = done-sent law before t done in
            cc)
      ]

  safe-sent : (t : Bool) (o : Option (List ℕ)) (before : Bool) → before ≡ true → (t ≡ true → (v : List ℕ) → o ≡ Some v → ⊥)
      → (if t then unless_written o before else before) ≡ true
  safe-sent false o before is never = is
  safe-sent true None before is never = is
  safe-sent true (Some v) before is never = absurd (never refl v refl)

  asks-before : (e : Entry) (later : List Entry) → HasHost s host (e ∷ later ++ flushed) → AsksAt slot (submission host (e ∷ later ++ flushed) c) Flush
      → AsksAt slot (submission host (later ++ flushed) c) Flush
  asks-before e later run asks =
      let before = one-less e (later ++ flushed) run in
      let was = sent-later host later flushed c (sent-flush (before-it later flushed before)) in
      asks-same (asked-later law (e ∷ []) (later ++ flushed) run c was) asks

  last-before : (e : Entry) (later : List Entry) → HasHost s host (e ∷ later ++ flushed) → IsLastWriteBefore host slot (e ∷ later ++ flushed) sct c
      → IsLastWriteBefore host slot (later ++ flushed) sct c
  last-before e later run last t lt sent =
      ap (λ o. writes slot o sct) (sym (asked-later law (e ∷ []) (later ++ flushed) run t sent)) ∙ last t lt (sent-one host e (later ++ flushed) t sent)

  safe-one : (e : Entry) (later : List Entry) → HasHost s host (e ∷ later ++ flushed) → AsksAt slot (submission host (later ++ flushed) c) Flush
      → IsLastWriteBefore host slot (e ∷ later ++ flushed) sct c → safe host slot (later ++ flushed) sct ≡ true
      → safe host slot (e ∷ later ++ flushed) sct ≡ true
  safe-one (Sent other t number f) later run asks last is = safe-sent _ _ _ is (λ first v wt.
      let p = and_parts _ _ first in
      not-first other t number f later run asks (λ lt. last t lt (rw (p.0, eq-eqb t t refl) refl)) p.0 (not-true _ p.1) v wt)
  safe-one (Done other t outcome.Flushed) later run asks last is = grind arith
  safe-one (Done other t o) later run asks last is = is
  safe-one e later run asks last is = is

  pub stays-safe : (later : List Entry) → HasHost s host (later ++ flushed) → AsksAt slot (submission host (later ++ flushed) c) Flush
      → IsLastWriteBefore host slot (later ++ flushed) sct c → safe host slot (later ++ flushed) sct ≡ true
  stays-safe [] run asks last = rw (own, asks.is, asks.slot_is) refl
  stays-safe (e ∷ later) run asks last =
      let asked = asks-before e later run asks in
      safe-one e later run asked last (stays-safe later (one-less e (later ++ flushed) run) asked (last-before e later run last))

  also-some : (t : Bool) (w : Option (List ℕ)) (o : Option (List (List ℕ))) → is_some o ≡ true → is_some (if t then also w o else o) ≡ true
  also-some t w o is = grind arith

  only-some : (t : Bool) (w : Option (List ℕ)) (o : Option (List (List ℕ))) → is_some o ≡ true → is_some (if t then only w o else o) ≡ true
  only-some t w o is = grind arith

  unless-some : (t : Bool) (o : Option (List (List ℕ))) → t ≡ false → is_some o ≡ true → is_some (if t then None else o) ≡ true
  unless-some t o whole is = rw whole is

  sure-one : (e : Entry) (later : List Entry) → safe host slot (later ++ flushed) sct ≡ true → has_fault slot (e ∷ later) flushed sct ≡ false
      → is_sure host slot (later ++ flushed) sct ≡ true → is_sure host slot (e ∷ later ++ flushed) sct ≡ true
  sure-one (Sent other t number f) later safe_is whole is = also-some _ _ _ is
  sure-one (Done other t outcome.Written) later safe_is whole is = only-some _ _ _ is
  sure-one (Arrived dev k fate) later safe_is whole is = unless-some _ _ (or_parts _ _ whole).0 is
  sure-one (Crashed dev lists how) later safe_is whole is = ap is_some (crash-keeps host slot (later ++ flushed) sct dev lists how safe_is) ∙ is
  sure-one e later safe_is whole is = is

  whole-before : (e : Entry) (later : List Entry) → has_fault slot (e ∷ later) flushed sct ≡ false → has_fault slot later flushed sct ≡ false
  whole-before (Arrived dev k fate) later whole = (or_parts _ _ whole).1
  whole-before e later whole = whole

  -- where the sector wasn't in doubt at the flush, it isn't now
  pub stays-sure : (later : List Entry) → HasHost s host (later ++ flushed) → AsksAt slot (submission host (later ++ flushed) c) Flush
      → IsLastWriteBefore host slot (later ++ flushed) sct c → is_sure host slot h sct ≡ true → has_fault slot later flushed sct ≡ false
      → is_sure host slot (later ++ flushed) sct ≡ true
  stays-sure [] run asks last sure whole = sure
  stays-sure (e ∷ later) run asks last sure whole =
      let before = one-less e (later ++ flushed) run in
      let asked = asks-before e later run asks in
      let earlier = last-before e later run last in
      sure-one e later (stays-safe later before asked earlier) whole (stays-sure later before asked earlier sure (whole-before e later whole))
