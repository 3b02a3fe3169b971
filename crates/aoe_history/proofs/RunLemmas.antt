-- What a network says of a history whose frames it has.
use Rattle.std.proofs.Common.{◌≤◌, ◌∙◌, IfSome, All, length, ℕ, ◌≡◌, inl, inr, List, [], ◌∷◌, Option, Some, None, sym, ap, arith}
use Rattle.std.specs.Option.{option_map}
use Rattle.std.proofs.lemmas.List.Elements.{All-cons, All-head, All-tail}
use Rattle.std.proofs.lemmas.List.Sums.{sum_by-cons}
use Rattle.std.proofs.lemmas.Option.{cond_some}
use Rattle.aoe_base.specs.declared.counted.Lifetimes.{Lifetimes}
use Rattle.aoe_base.specs.Sizes.{longest_frame}
use Rattle.aoe_net.specs.Network.{deliverable, numbered, with_frame, IsFull, Network, SentFrame}
use Rattle.aoe_net.proofs.StoreLemmas.{room-left}
use Rattle.aoe_history.specs.declared.entry.Entry.{Entry}
use Rattle.aoe_history.specs.Frames.{clock, frames, network}
use Rattle.aoe_history.specs.Run.{Carries, IsShort, IsWithin}
use Rattle.aoe_history.proofs.LogicLemmas.{some-then}
use Rattle.aoe_history.proofs.hosts.EntryLemmas.{numbered-cases}

-- FRAMES THAT AREN'T TOO LONG

number-short : (fs : List SentFrame) (k : ℕ) (f : SentFrame) → All IsShort fs → numbered fs k ≡ Some f → IsShort f
number-short [] k f all e = absurd (cc)
number-short (g ∷ fs) k f all e = elim (numbered-cases g fs k f e) [
  | inl z ↦ rw z at (All-head IsShort g fs all)
  | inr q ↦ number-short fs k f (All-tail IsShort g fs all) q
]

-- a frame that is handed over isn't too long
short-handed : (net : Network) (k now : ℕ) (f : List ℕ) → All IsShort net.sent → deliverable net k now ≡ Some f → length f ≤ 9018
short-handed net k now f all e = let x = some-then _ (numbered net.sent k) f e in rw (cond_some _ _ _ x.2).1 at (number-short net.sent k x.0 all x.1)

pub bound-of : {X : Type 0} (view : X → List ℕ) (o : Option X) (net : Network) (k now : ℕ) → All IsShort net.sent → option_map view o ≡ deliverable net k now
    → IfSome o (λ x. length (view x) ≤ 9018)
bound-of view None net k now all e = tt
bound-of view (Some x) net k now all e = short-handed net k now (view x) all (sym e)

-- ONE FRAME MORE

within-more : (life : Lifetimes) (h : List Entry) (f : SentFrame) → (IsFull (network life h) f.bytes → ⊥) → IsWithin (frames h) → IsWithin (f ∷ frames h)
within-more life h f never within =
    let room = room-left (network life h) f.bytes never in
    let sum = sum_by-cons (λ (frame : SentFrame). length frame.bytes) f (frames h) in
    record { few = omega (arith, room.frames); small = omega (arith, room.bytes, sum) }

-- a network that has room for the frame of an entry has it then
pub carries-more : {life : Lifetimes} {now : ℕ} {h : List Entry} {net : Network} {entry : Entry} {bytes : List ℕ} → Carries life now h net
    → length bytes ≤ longest_frame → (IsFull (network life h) bytes → ⊥)
    → frames (entry ∷ h) ≡ record { bytes = bytes; birth = clock h } ∷ frames h → clock (entry ∷ h) ≡ clock h
    → Carries life now (entry ∷ h) (with_frame net now bytes)
carries-more {life} {now} {h} {net} {entry} {bytes} c short never brings stays =
    let f : SentFrame = record { bytes = bytes; birth = now } in
    let sent : f ∷ net.sent ≡ f ∷ frames h = ap (λ fs. f ∷ fs) c.sent in
    record {
      life_is = c.life_is;
      sent = rw (brings, ← c.time) sent;
      past = omega arith;
      short = All-cons IsShort f net.sent short c.short;
      time = c.time ∙ sym stays;
      within = rw c.sent (within-more life h f never (rw c.sent at c.within));
    }
