-- The writes of a host that are under way, beside its other commands.
use Rattle.std.proofs.Common.{ℕ, ◌<◌, ◌≡◌, inl, inr, Bool, true, false, List, Option, Some, refl, arith}
use Rattle.std.proofs.lemmas.Bool.{cases_order, eq-eqb}
use Rattle.std.proofs.lemmas.Bool.Decides.{nat_tests}
use Rattle.aoe_base.specs.declared.sectors.Span.{Span}
use Rattle.aoe_base.specs.Spans.{overlap}
use Rattle.aoe_base.specs.declared.counted.Lifetimes.{Lifetimes}
use Rattle.aoe_base.proofs.CommonLemmas.{not-both}
use Rattle.aoe_frame.specs.Header.{is_response}
use Rattle.aoe_hold.specs.declared.command.Command.{Command}
use Rattle.aoe_hold.specs.declared.command.Stage.TheVariants.{Unsent}
use Rattle.aoe_hold.specs.Commands.{conflict, has_effect, rests_on_effects}
use Rattle.aoe_initiator.specs.declared.op.Op.{Op}
use Rattle.aoe_initiator.specs.declared.op.Op.TheVariants.{Read, Write, Flush}
use Rattle.aoe_initiator.specs.HostLog.{Sending}
use Rattle.aoe_initiator.specs.Op.{kind_of, span_of}
use Rattle.aoe_initiator.proofs.NameLemmas.{same-id}
use Rattle.aoe_net.specs.Network.{numbered, SentFrame}
use Rattle.aoe_target.specs.Sectors.{in_span, value_in}
use Rattle.aoe_history.specs.declared.entry.Entry.{Entry}
use Rattle.aoe_history.specs.Commands.{submission, writes, Submission}
use Rattle.aoe_history.specs.CommandView.{in_conflict, is_active, sends_of, was_done, AsksAt, IsSentFor}
use Rattle.aoe_history.specs.Frames.{arriving, frames}
use Rattle.aoe_history.specs.Setup.{device_no, HostSetup, SlotSetup}
use Rattle.aoe_history.proofs.hosts.BaseLemmas.{Base}
use Rattle.aoe_history.proofs.FrameLemmas.{birth_of, arrives, request-life}
use Rattle.aoe_history.proofs.hosts.GoneLemmas.{AreGone}

pub record WritesTo (slot : SlotSetup) (o : Option Submission) (s : ℕ) (v : List ℕ) : Type 0 where
  pub at : ℕ
  pub bytes : List ℕ
  pub asks : AsksAt slot o (Write at bytes)
  pub inside : in_span (span_of (Write at bytes)) s ≡ true
  pub value : v ≡ value_in (span_of (Write at bytes)) bytes s

pub writes-to : (slot : SlotSetup) (o : Option Submission) (s : ℕ) (v : List ℕ) → writes slot o s ≡ Some v → WritesTo slot o s v
writes-to slot o s v e = grind arith

-- CONFLICTS

overlaps : (a b : Span) (s : ℕ) → in_span a s ≡ true → in_span b s ≡ true → overlap a b ≡ true
overlaps a b s p q = grind (arith, nat_tests)

-- a conflict of what two operations ask
abbrev entered : Op → Command
entered op = record { ticket = record { 0 = 0 }; kind = kind_of op; span = span_of op; stage = Unsent }

abbrev op_clash : Op → Op → Bool
op_clash x y = conflict (entered x) (entered y)

conflicts : (host : HostSetup) {slot : SlotSetup} (h : List Entry) (d c : ℕ) {a b : Op} → AsksAt slot (submission host h d) a
    → AsksAt slot (submission host h c) b → op_clash a b ≡ true → in_conflict host h d c ≡ true
conflicts host {slot} h d c p q e =
    grind (arith, same-id slot.station.id p.dev p.slot_is, same-id slot.station.id q.dev q.slot_is, eq-eqb (device_no host q.dev).0 _ refl)

-- UNDER WAY

module _ (life : Lifetimes) (host : HostSetup) (h : List Entry) (b : Base life host h) (g : AreGone life host h) where
  -- an earlier command in conflict is done once a later one was sent, and over where it has effects and the later one rests on them
  module _ {slot : SlotSetup} (d c : ℕ) {x y : Sending} {a l : Op} (p : sends_of host h c ≡ Some x) (q : sends_of host h d ≡ Some y) (lt : d < c)
      (asks : AsksAt slot (submission host h d) a) (later : AsksAt slot (submission host h c) l) (clash : op_clash a l ≡ true) where
    earlier-done : was_done host h d ≡ true
    earlier-done = b.order c d _ p (b.bounds d _ q).0 lt (conflicts host h d c asks later clash)

    earlier-over : has_effect (kind_of a) ≡ true → rests_on_effects (kind_of l) ≡ true → is_active life host h d y ≡ true → ⊥
    earlier-over effect rests active = grind (arith, earlier-done, b.bounds d y, conflicts host h d c asks later clash, asks.is, later.is, g c d x y)

  -- two writes of a sector that are under way are one
  pub one-write : (slot : SlotSetup) (s c d : ℕ) (x y : Sending) (v w : List ℕ) → sends_of host h c ≡ Some x
      → sends_of host h d ≡ Some y → is_active life host h c x ≡ true → is_active life host h d y ≡ true
      → writes slot (submission host h c) s ≡ Some v → writes slot (submission host h d) s ≡ Some w → c ≡ d
  one-write slot s c d x y v w p q a e wc wd =
      let m = writes-to slot (submission host h c) s v wc in
      let n = writes-to slot (submission host h d) s w wd in
      elim (cases_order c d) [
        | inl same ↦ same
        | inr (inl lt) ↦ absurd (earlier-over c d q p lt m.asks n.asks (rw (overlaps _ _ s m.inside n.inside)) refl refl a)
        | inr (inr lt) ↦ absurd (earlier-over d c p q lt n.asks m.asks (rw (overlaps _ _ s n.inside m.inside)) refl refl e)
      ]

  -- no write of a slot is under way beside a flush of it that flies
  pub none-beside-flush : (slot : SlotSetup) (s c d : ℕ) (x y : Sending) (w : List ℕ) → sends_of host h c ≡ Some x
      → sends_of host h d ≡ Some y → was_done host h c ≡ false → is_active life host h d y ≡ true
      → AsksAt slot (submission host h c) Flush → writes slot (submission host h d) s ≡ Some w → ⊥
  none-beside-flush slot s c d x y w p q flying e asks wd =
      let n = writes-to slot (submission host h d) s w wd in
      elim (cases_order c d) [
        | inl same ↦ (let none = rw (← same, asks.is, asks.slot_is) at wd in cc)
        | inr (inl lt) ↦ not-both _ (earlier-done c d q p lt asks n.asks (grind (arith, nat_tests))) flying
        | inr (inr lt) ↦ earlier-over d c p q lt n.asks asks (grind (arith, nat_tests)) refl refl e
      ]

  -- no write of a sector flies beside a read of it
  pub none-beside-read : (slot : SlotSetup) (span : Span) (s c d : ℕ) (x y : Sending) (w : List ℕ) → sends_of host h c ≡ Some x
      → sends_of host h d ≡ Some y → was_done host h c ≡ false → was_done host h d ≡ false
      → AsksAt slot (submission host h c) (Read span) → in_span span s ≡ true → writes slot (submission host h d) s ≡ Some w → ⊥
  none-beside-read slot span s c d x y w p q flying also_flying asks inside wd =
      let n = writes-to slot (submission host h d) s w wd in
      elim (cases_order c d) [
        | inl same ↦ (let none = rw (← same, asks.is, asks.slot_is) at wd in cc)
        | inr (inl lt) ↦ not-both _ (earlier-done c d q p lt asks n.asks (rw (overlaps span _ s inside n.inside))) flying
        | inr (inr lt) ↦ not-both _ (earlier-done d c p q lt n.asks asks (rw (overlaps _ span s n.inside inside))) also_flying
      ]

-- a frame of a host that can arrive is of a command that is under way
pub arriving-active : (life : Lifetimes) (host : HostSetup) (h : List Entry) (number : ℕ) (frame : SentFrame)
    → is_response frame.bytes ≡ false → numbered (frames h) number ≡ Some frame → arriving life h number ≡ Some frame.bytes → (x : IsSentFor host h frame)
    → is_active life host h x.ticket x.sending ≡ true
arriving-active life host h number frame asks e fresh x =
    let a = arrives life h number frame.bytes fresh in
    let born : birth_of h number ≡ frame.birth = rw e in
    let le = rw (request-life life frame.bytes asks) at a.fresh in
    let time = x.time in
    grind (arith, nat_tests)
