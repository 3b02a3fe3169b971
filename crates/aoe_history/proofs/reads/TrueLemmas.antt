-- What a reply in the network says of its command.
use Rattle.std.proofs.Common.{ℕ, ◌+◌, ◌≤◌, ◌≡◌, inl, inr, true, false, List, ◌∷◌, drop, slice_range, Some, refl, sym, ◌∙◌, arith}
use Rattle.aoe_base.specs.declared.sectors.Span.{Span}
use Rattle.aoe_base.specs.Addresses.{holds}
use Rattle.aoe_base.specs.declared.counted.Lifetimes.{Lifetimes}
use Rattle.aoe_frame.specs.Header.{fields}
use Rattle.aoe_initiator.specs.declared.op.Op.{Op}
use Rattle.aoe_initiator.specs.declared.op.Op.TheVariants.{Read, Write, Flush}
use Rattle.aoe_initiator.specs.declared.response.Answer.{Answer}
use Rattle.aoe_initiator.specs.declared.response.Answer.TheVariants.{Data, Written, Flushed}
use Rattle.aoe_initiator.specs.HostLaw.{same_id}
use Rattle.aoe_initiator.specs.HostLog.{Sending}
use Rattle.aoe_initiator.specs.Op.{span_of}
use Rattle.aoe_initiator.specs.Response.{answer}
use Rattle.aoe_net.specs.Network.{numbered, SentFrame}
use Rattle.aoe_target.specs.Sectors.{in_span, value_in}
use Rattle.aoe_history.specs.declared.entry.Entry.{Entry}
use Rattle.aoe_history.specs.Commands.{submission}
use Rattle.aoe_history.specs.CommandView.{sends_of, was_done, AsksAt}
use Rattle.aoe_history.specs.Frames.{frames}
use Rattle.aoe_history.specs.Reading.{allowed, alone, IsAllowed}
use Rattle.aoe_history.specs.Setup.{HostSetup, SlotSetup}
use Rattle.aoe_history.specs.Slots.{marked_after}
use Rattle.aoe_history.proofs.sectors.AtLemmas.{landed, not-before, At, IsFlying}
use Rattle.aoe_history.proofs.hosts.BaseLemmas.{Base, Keeps}
use Rattle.aoe_history.proofs.hosts.EntryLemmas.{numbered-cases}

-- what an answer to a command says of a sector: a write was stored since it was sent, no mark is left after a flush, a value that is read is allowed
abbrev pub SaysOf : HostSetup → SlotSetup → List Entry → (s c : ℕ) → Op → Answer → List ℕ → Type 0
SaysOf host slot h s c (Write at bytes) Written f = in_span (span_of (Write at bytes)) s ≡ true → landed host slot h s c ≡ true
SaysOf host slot h s c Flush Flushed f = alone host slot h s ≡ true → marked_after slot h s ≡ false
SaysOf host slot h s c (Read span) (Data len) f =
    in_span span s ≡ true → alone host slot h s ≡ true → IsAllowed (Some (value_in span (slice_range (drop 24 f) 12 (12 + len)) s)) (allowed host slot h s)
SaysOf host slot h s c op a f = Unit {0}

-- a reply is to a command that was sent, and says what is so while the command flies
pub record IsTrue (life : Lifetimes) (host : HostSetup) (slot : SlotSetup) (h : List Entry) (s : ℕ) (r : SentFrame) : Type 0 where
  pub ticket : ℕ
  pub sending : Sending
  pub sent : sends_of host h ticket ≡ Some sending
  pub tag : (fields r.bytes).tag ≡ sending.tag
  pub time : r.birth ≤ sending.last.0 + life.requests.0
  pub says : was_done host h ticket ≡ false → (op : Op) → AsksAt slot (submission host h ticket) op → (a : Answer)
      → answer op (fields r.bytes) (drop 24 r.bytes) ≡ Some a
      → SaysOf host slot h s ticket op a r.bytes

-- a frame of the slot to the host
pub record IsReplyTo (host : HostSetup) (slot : SlotSetup) (f : List ℕ) : Type 0 where
  pub dst : holds host.ports (fields f).dst ≡ true
  pub src : holds slot.station.ports.items (fields f).src ≡ true
  pub id : same_id slot.station.id (fields f).id ≡ true

pub record AreTrue (life : Lifetimes) (host : HostSetup) (slot : SlotSetup) (h : List Entry) (s : ℕ) (fs : List SentFrame) : Type 0 where
  pub each : (k : ℕ) (r : SentFrame) → numbered fs k ≡ Some r → IsReplyTo host slot r.bytes → IsTrue life host slot h s r

-- what an entry leaves of what replies say
pub record Passes (host : HostSetup) (slot : SlotSetup) (h n : List Entry) (s : ℕ) : Type 0 where
  pub sent : (c : ℕ) (x : Sending) → sends_of host h c ≡ Some x → (y : Sending) × (sends_of host n c ≡ Some y) × (y.tag ≡ x.tag) × (x.last.0 ≤ y.last.0)
  pub flying : (c : ℕ) → was_done host n c ≡ false → was_done host h c ≡ false
  pub asked : (c : ℕ) (x : Sending) → sends_of host h c ≡ Some x → submission host n c ≡ submission host h c
  pub stored : (c : ℕ) → landed host slot h s c ≡ true → landed host slot n s c ≡ true
  pub marks : (c : ℕ) → IsFlying host h c → AsksAt slot (submission host h c) Flush → (alone host slot h s ≡ true → marked_after slot h s ≡ false)
      → alone host slot n s ≡ true → marked_after slot n s ≡ false
  pub reads : (c : ℕ) (span : Span) → IsFlying host h c → AsksAt slot (submission host h c) (Read span) → in_span span s ≡ true → (v : List ℕ)
      → (alone host slot h s ≡ true → IsAllowed (Some v) (allowed host slot h s)) → alone host slot n s ≡ true → IsAllowed (Some v) (allowed host slot n s)

module _ {host : HostSetup} {slot : SlotSetup} {h n : List Entry} {s : ℕ} (p : Passes host slot h n s) where
  says-passes : (c : ℕ) → IsFlying host h c → (op : Op) → AsksAt slot (submission host h c) op → (a : Answer) (f : List ℕ) → SaysOf host slot h s c op a f
      → SaysOf host slot n s c op a f
  says-passes c fl (Write at bytes) asks Written f x = λ i. p.stored c (x i)
  says-passes c fl Flush asks Flushed f x = p.marks c fl asks x
  says-passes c fl (Read span) asks (Data len) f x = λ i. p.reads c span fl asks i _ (x i)
  says-passes c fl _ asks _ f x = tt

  true-passes : {life : Lifetimes} {r : SentFrame} → IsTrue life host slot h s r → IsTrue life host slot n s r
  true-passes {life} {r} t =
      let y = p.sent t.ticket t.sending t.sent in
      record {
        ticket = t.ticket;
        sending = y.0;
        sent = y.1;
        tag = t.tag ∙ sym y.2;
        time = (let l = t.time in let m = y.3 in omega arith);
        says = λ done op asks a ans.
            let fl = p.flying t.ticket done in
            let asked = rw (p.asked t.ticket t.sending t.sent) at asks in
            says-passes t.ticket (t.sending, t.sent, fl) op asked a r.bytes (t.says fl op asked a ans);
      }

  pub all-pass : {life : Lifetimes} {fs : List SentFrame} → AreTrue life host slot h s fs → AreTrue life host slot n s fs
  all-pass all = record { each = λ k r e to. true-passes (all.each k r e to) }

-- one more frame
pub one-more : {life : Lifetimes} {host : HostSetup} {slot : SlotSetup} {n : List Entry} {s : ℕ} {g : SentFrame} {fs : List SentFrame}
    → (IsReplyTo host slot g.bytes → IsTrue life host slot n s g) → AreTrue life host slot n s fs → AreTrue life host slot n s (g ∷ fs)
one-more {g = g} {fs} new all = record { each = λ k r e to. elim (numbered-cases g fs k r e) [ inl z ↦ rw (← z) (new (rw z to)) | inr q ↦ all.each k r q to ] }

-- what may be read of the sector still may
abbrev pub StillReads : HostSetup → SlotSetup → List Entry → List Entry → ℕ → Type 0
StillReads host slot h n s = (c : ℕ) (span : Span) → IsFlying host h c → AsksAt slot (submission host h c) (Read span) → in_span span s ≡ true → (v : List ℕ)
    → IsAllowed (Some v) (allowed host slot h s) → IsAllowed (Some v) (allowed host slot n s)

-- an entry that changes nothing of the sector
pub keeps-passes : {life : Lifetimes} {host : HostSetup} {h n : List Entry} (slot : SlotSetup) (s : ℕ) → Keeps host h n → Base life host h
    → ((c : ℕ) → landed host slot n s c ≡ landed host slot h s c) → alone host slot n s ≡ alone host slot h s → marked_after slot n s ≡ marked_after slot h s
    → StillReads host slot h n s → Passes host slot h n s
keeps-passes slot s k b la al ma may = record {
  sent = λ c x e. (x, k.sends c ∙ e, refl, omega arith);
  flying = λ c d. not-before (k.done c) d;
  asked = λ c x e. k.submissions c (b.bounds c x e).1;
  stored = λ c l. la c ∙ l;
  marks = λ c fl asks m a. ma ∙ m (sym al ∙ a);
  reads = λ c span fl asks i v m a. may c span fl asks i v (m (sym al ∙ a));
}

-- what is kept of the sector and of the replies in the network
pub record Kept (life : Lifetimes) (host : HostSetup) (slot : SlotSetup) (h : List Entry) (s : ℕ) : Type 0 where
  pub at : At life host slot h s
  pub replies : AreTrue life host slot h s (frames h)
