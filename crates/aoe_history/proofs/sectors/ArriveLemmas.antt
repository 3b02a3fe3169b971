-- What holds of a sector of a slot for a host after an arrival.
use Rattle.std.proofs.Common.{ℕ, ◌≡◌, ◌⊎◌, inl, inr, if◌then◌else◌, Bool, true, false, List, [], ◌∷◌, drop, Some, IsSomeAnd, refl, sym, subst, ap, ◌∙◌, arith, Contains}
use Rattle.std.specs.Option.{option_map}
use Rattle.aoe_base.specs.declared.address.TargetId.{TargetId}
use Rattle.aoe_base.specs.declared.counted.Lifetimes.{Lifetimes}
use Rattle.aoe_base.specs.declared.sectors.Span.{Span}
use Rattle.aoe_ata.specs.Decision.{written}
use Rattle.aoe_ata.specs.declared.decision.AtaAnswer.{AtaAnswer}
use Rattle.aoe_ata.specs.declared.decision.AtaAnswer.TheVariants as ata
use Rattle.aoe_initiator.specs.declared.op.Op.{Op}
use Rattle.aoe_initiator.specs.declared.op.Op.TheVariants.{Write}
use Rattle.aoe_initiator.specs.Op.{span_of}
use Rattle.aoe_initiator.proofs.NameLemmas.{same-id}
use Rattle.aoe_target.specs.declared.station.Station.{Station}
use Rattle.aoe_target.specs.declared.verdict.Verdict.{Verdict}
use Rattle.aoe_target.specs.declared.verdict.Verdict.TheVariants.{Lists, Ata}
use Rattle.aoe_target.specs.Device.{State}
use Rattle.aoe_target.specs.Law.{after, after_ata, step_of}
use Rattle.aoe_target.specs.Verdict.{as_marked}
use Rattle.aoe_target.specs.Sectors.{in_span, value_in, Sectors}
use Rattle.aoe_history.specs.declared.entry.Entry.{Entry}
use Rattle.aoe_history.specs.declared.entry.Entry.TheVariants.{Arrived, Crashed}
use Rattle.aoe_history.specs.declared.entry.Fate.{Fate}
use Rattle.aoe_history.specs.Commands.{writes, Submission}
use Rattle.aoe_history.specs.Conversation.{asked_for}
use Rattle.aoe_history.specs.Frames.{arriving, bytes_of}
use Rattle.aoe_history.specs.Lawful.{HasHost, IsArrival}
use Rattle.aoe_history.specs.Reading.{is_from}
use Rattle.aoe_history.specs.Setup.{is_slot, slot_of, HostSetup, IsSetup, Setup, SlotSetup}
use Rattle.aoe_history.specs.Slots.{after_frame, fate_at, known_after, left_sectors, marked_after, marked_in, slot_after, state_after, verdict_after, Slot}
use Rattle.aoe_history.proofs.replies.RequestLemmas.{unmarked}
use Rattle.aoe_history.proofs.FrameLemmas.{arrives, bytes-arriving}
use Rattle.aoe_history.proofs.LogicLemmas.{if-true, some-and}
use Rattle.aoe_history.proofs.hosts.ApartLemmas.{arriving-active, one-write}
use Rattle.aoe_history.proofs.hosts.AskedLemmas.{there-of, understood}
use Rattle.aoe_history.proofs.hosts.HostLemmas.{holds-of}
use Rattle.aoe_history.proofs.hosts.SentLemmas.{host-there, request-kind}
use Rattle.aoe_history.proofs.sectors.AtLemmas.{flying-active, wr, At, IsUnderWay}
use Rattle.aoe_history.proofs.sectors.DeedLemmas.{acts, known_in, put, showed, spoilt, step-sectors, synced, Act, IsPut}
use Rattle.aoe_history.proofs.sectors.SectorLemmas.{breaks_it, landing, learns, stores, syncs, Writer}

-- the slot that a device's name names
pub named-slot : (s : Setup) (slot : SlotSetup) (dev : TargetId) → IsSetup s → Contains s.slots slot → is_slot slot dev ≡ true → slot_of s dev ≡ Some slot
named-slot s slot dev ok there is = subst (λ (z : TargetId). slot_of s z ≡ Some slot) (same-id slot.station.id dev is) (ok.slot_names slot there)

-- WRITES

-- what a slot stores it was asked to store, whether or not it is read-only
stored : (read_only : Bool) (answer : AtaAnswer) (z : Span) → as_marked read_only answer ≡ ata.Put z → answer ≡ ata.Put z
stored true answer z e = grind arith
stored false answer z e = sym (unmarked answer) ∙ e

put-op : (total : ℕ) (op : Op) (z : Span) → asked_for total op ≡ ata.Put z
    → (at : ℕ) × (bytes : List ℕ) × (op ≡ Write at bytes) × (span_of (Write at bytes) ≡ z)
put-op total op z e = grind arith

writes-value : (slot : SlotSetup) (x : Submission) (at : ℕ) (bytes args : List ℕ) (span : Span) (s : ℕ) → is_slot slot x.dev ≡ true → x.op ≡ Write at bytes
    → span_of (Write at bytes) ≡ span → in_span span s ≡ true → written args span ≡ bytes → writes slot (Some x) s ≡ Some (value_in span (written args span) s)
writes-value slot x at bytes args span s is op span_is inside same = rw (same, is, op, rw (← span_is) at inside, ← span_is) refl

module _ {s : Setup} {host : HostSetup} {h : List Entry} (run : HasHost s host h) (slot : SlotSetup) (there : Contains s.slots slot) (sct : ℕ) where
  -- a frame of the host that a slot takes as a write is of a write that is under way
  pub writer : (k : ℕ) (f : List ℕ) (span : Span) → arriving s.life h k ≡ Some f → is_from host f ≡ true → IsPut (verdict_after slot h f) sct span
      → Writer (IsUnderWay s.life host h) (wr host slot h sct) (value_in span (written (drop 24 f) span) sct)
  writer k f span fresh from v =
      let holds = holds-of s host h run in
      let frame = arrives s.life h k f fresh in
      let sent = holds.frames k _ frame.is from in
      let asks = request-kind s host _ _ sent.sending.tag f run.setup (host-there s run.name host run.called).0 sent.request in
      let bounds = holds.base.bounds sent.ticket sent.sending sent.sent in
      let x = there-of s host h run sent.ticket bounds.0 bounds.1 in
      let u = understood s host h run slot there _ (state_after slot h).lists v.decision sent v.verdict_is x.0 x.1 in
      let p = put-op slot.station.sectors x.0.op span (stored (state_after slot h).lists.read_only _ span (sym u.answer_is ∙ v.answer_is)) in
      record {
        ticket = sent.ticket;
        under_way = (sent.sending, sent.sent, arriving-active s.life host h k _ asks frame.is fresh sent);
        writes_it = rw x.1 (writes-value slot x.0 p.0 p.1 (drop 24 f) span sct u.slot_is p.2 p.3 v.inside
            (ap (written (drop 24 f)) (sym p.3) ∙ u.bytes_are p.0 p.1 p.2));
      }

-- WHAT ARRIVES AT THE SLOT

-- the sectors of a slot are known at all times
abbrev AreKnown : State → Type 0
AreKnown k = (x : Sectors) × (k.sectors ≡ Some x)

pub either : (b : Bool) (x y : Slot) → ((b ≡ true) × ((if b then x else y) ≡ x)) ⊎ ((b ≡ false) × ((if b then x else y) ≡ y))
either b x y = grind arith

known-either : (b : Bool) (x y : Slot) → AreKnown x.state → AreKnown y.state → AreKnown (if b then x else y).state
known-either true x y p q = p
known-either false x y p q = q

pub same-sector : {x y : Slot} (s : ℕ) → x ≡ y
    → (known_in x.state.sectors s ≡ known_in y.state.sectors s) × (marked_in x.state.sectors s ≡ marked_in y.state.sectors s)
same-sector s e = (ap (λ (z : Slot). known_in z.state.sectors s) e, ap (λ (z : Slot). marked_in z.state.sectors s) e)

still-known : (station : Station) (f : List ℕ) (v : Verdict) (fate : Fate) (k : State) → AreKnown k → AreKnown (after station f v (fate_at fate) k)
still-known station f (Ata d) fate k p = (_, ap (option_map (after_ata f d.answer (fate_at fate))) p.1)
still-known station f (Lists c) fate k p = (p.0, step-sectors (step_of station k.lists f c) fate k ∙ p.1)
still-known station f _ fate k p = p

pub sectors-there : (slot : SlotSetup) (h : List Entry) → AreKnown (state_after slot h)
sectors-there slot [] = (_, refl)
sectors-there slot (Arrived dev frame fate ∷ h) =
    let p = sectors-there slot h in
    known-either (is_slot slot dev) _ _ (still-known slot.station (bytes_of h frame) _ fate _ p) p
sectors-there slot (Crashed dev lists how ∷ h) =
    let p = sectors-there slot h in
    known-either (is_slot slot dev) _ _ (_, ap (option_map (left_sectors slot _ how)) p.1) p
sectors-there slot (_ ∷ h) = sectors-there slot h

-- the slot after an arrival
pub slot-arrived : (slot : SlotSetup) (h : List Entry) (dev : TargetId) (k : ℕ) (fate : Fate) (f : List ℕ) → is_slot slot dev ≡ true → bytes_of h k ≡ f
    → slot_after slot (Arrived dev k fate ∷ h) ≡ after_frame slot f fate (slot_after slot h)
slot-arrived slot h dev k fate f is bytes = if-true _ _ _ is ∙ ap (λ z. after_frame slot z fate (slot_after slot h)) bytes

-- a frame that came to this slot, and what it did
pub record IsHere (life : Lifetimes) (slot : SlotSetup) (h : List Entry) (dev : TargetId) (k : ℕ) (fate : Fate) (s : ℕ) : Type 0 where
  pub frame : List ℕ
  pub is : is_slot slot dev ≡ true
  pub bytes : bytes_of h k ≡ frame
  pub fresh : arriving life h k ≡ Some frame
  pub act : Act (verdict_after slot h frame) frame fate s (known_after slot h s) (known_after slot (Arrived dev k fate ∷ h) s) (marked_after slot h s)
      (marked_after slot (Arrived dev k fate ∷ h) s)

module _ {s : Setup} {host : HostSetup} {h : List Entry} (run : HasHost s host h) (slot : SlotSetup) (there : Contains s.slots slot) (sct : ℕ)
    (dev : TargetId) (k : ℕ) (fate : Fate) where
  abbrev n : List Entry
  n = Arrived dev k fate ∷ h

  -- a frame comes to another slot, or to this one
  pub arrival : IsSomeAnd (slot_of s dev) (λ z. IsArrival s z h k fate)
      → ((is_slot slot dev ≡ false) × (slot_after slot n ≡ slot_after slot h)) ⊎ IsHere s.life slot h dev k fate sct
  arrival law = elim (either (is_slot slot dev) (after_frame slot (bytes_of h k) fate (slot_after slot h)) (slot_after slot h)) [
    | inr away ↦ inl away
    | inl here ↦ (let a = some-and (λ z. IsArrival s z h k fate) _ slot (named-slot s slot dev run.setup there here.0) law in
        let bytes = bytes-arriving s.life h k a.bytes a.fresh in
        let x = sectors-there slot h in
        let now = same-sector sct (slot-arrived slot h dev k fate a.bytes here.0 bytes) in
        inr (record {
          frame = a.bytes;
          is = here.0;
          bytes = bytes;
          fresh = a.fresh;
          act = rw (now.0, now.1) (acts slot.station (state_after slot h) a.bytes (verdict_after slot h a.bytes) fate sct x.0 x.1 a.law);
        }))
  ]

  pub arrived-at : IsSomeAnd (slot_of s dev) (λ z. IsArrival s z h k fate) → At s.life host slot h sct → At s.life host slot n sct
  arrived-at law x = elim (arrival law) [
    | inl away ↦ (let was = same-sector sct away.1 in rw (was.0, was.1, away.0) (landing x (λ c. rw (away.0) refl)))
    | inr here ↦ by-act here.frame here.is here.bytes here.fresh here.act
  ]
    where
      by-act : (f : List ℕ) → is_slot slot dev ≡ true → bytes_of h k ≡ f → arriving s.life h k ≡ Some f
          → Act (verdict_after slot h f) f fate sct (known_after slot h sct) (known_after slot n sct) (marked_after slot h sct) (marked_after slot n sct)
          → At s.life host slot n sct
      by-act f e bytes fresh (showed shown p q a b) = rw (p, q, bytes, a, b, e) (landing (learns x shown) (λ c. rw (e, a) refl))
      by-act f e bytes fresh (put span v p q a b) =
          let holds = holds-of s host h run in
          rw (p, q, bytes, a, b, e) (stores x (flying-active s.life host h) (λ from. writer run slot there sct k f span fresh from v)
          (λ c d v w y z. one-write s.life host h holds.base holds.gone slot sct c d y.0 z.0 v w y.1 z.1 y.2 z.2))
      by-act f e bytes fresh (spoilt span v q a b) = rw (q, bytes, a, b, e) (breaks_it x (λ from. writer run slot there sct k f span fresh from v))
      by-act f e bytes fresh (synced p q a b) = rw (p, q, bytes, a, b, e) (landing (syncs x) (λ c. rw (e, a) refl))
