-- What arrivals, crashes and sends leave of what replies say.
use Rattle.std.proofs.Common.{ℕ, ◌≤◌, ◌≡◌, inl, inr, if◌then◌else◌, nat_eq, Bool, true, false, ◌&&◌, ◌||◌, List, ◌∷◌, Option, Some, None, IsSomeAnd, refl, ap, ◌∙◌, arith, Contains}
use Rattle.std.specs.Option.{option_map}
use Rattle.arrayvec.specs.ArrayVec.{ArrayVec}
use Rattle.aoe_base.specs.declared.address.TargetId.{TargetId}
use Rattle.aoe_base.specs.declared.counted.Lifetimes.{Lifetimes}
use Rattle.aoe_base.specs.declared.counted.Millis.{Millis}
use Rattle.aoe_disk.specs.declared.loss.Loss.{Loss}
use Rattle.aoe_frame.specs.Header.{fields}
use Rattle.aoe_initiator.specs.declared.op.Op.TheVariants.{Flush}
use Rattle.aoe_initiator.specs.HostLog.{Sending}
use Rattle.aoe_lists.specs.Settings.{Settings}
use Rattle.aoe_target.specs.Sectors.{Sectors}
use Rattle.aoe_history.specs.declared.entry.Entry.{Entry}
use Rattle.aoe_history.specs.declared.entry.Entry.TheVariants.{Sent, Arrived, Crashed}
use Rattle.aoe_history.specs.declared.entry.Fate.{Fate}
use Rattle.aoe_history.specs.Commands.{path_of, submission}
use Rattle.aoe_history.specs.CommandView.{sends_of, timeout_at, AsksAt}
use Rattle.aoe_history.specs.Frames.{bytes_of, clock}
use Rattle.aoe_history.specs.Lawful.{HasHost, IsArrival}
use Rattle.aoe_history.specs.Reading.{alone, also, is_from, IsAllowed}
use Rattle.aoe_history.specs.Setup.{is_called, is_slot, slot_of, HostSetup, Setup, SlotSetup}
use Rattle.aoe_history.specs.Slots.{after_crash, breaks, known_after, left_sectors, lost, marked_after, marked_in, slot_after, state_after, stores, verdict_after, Unsettled}
use Rattle.aoe_history.proofs.LogicLemmas.{or-right}
use Rattle.aoe_history.proofs.hosts.ApartLemmas.{none-beside-flush}
use Rattle.aoe_history.proofs.hosts.BaseLemmas as base
use Rattle.aoe_history.proofs.hosts.BaseLemmas.{Base}
use Rattle.aoe_history.proofs.hosts.HostLemmas.{holds-of}
use Rattle.aoe_history.proofs.reads.TrueLemmas.{Passes}
use Rattle.aoe_history.proofs.sectors.ArriveLemmas.{arrival, either, same-sector, sectors-there, writer, IsHere}
use Rattle.aoe_history.proofs.sectors.AtLemmas.{wr, At, IsFlying, IsUnderWay}
use Rattle.aoe_history.proofs.sectors.DeedLemmas.{known_in, put, showed, spoilt, synced, Act}
use Rattle.aoe_history.proofs.sectors.SectorLemmas.{allowed-also, crashes, Writer}

-- ARRIVALS

pub was-alone : (host : HostSetup) (slot : SlotSetup) (h : List Entry) (dev : TargetId) (k : ℕ) (fate : Fate) (s : ℕ)
    → alone host slot (Arrived dev k fate ∷ h) s ≡ true
    → (alone host slot h s ≡ true)
    × ((is_slot slot dev && (stores fate s || breaks (verdict_after slot h (bytes_of h k)) fate s)) ≡ true → is_from host (bytes_of h k) ≡ true)
was-alone host slot h dev k fate s al = grind arith

pub allowed-unless : (t : Bool) (v : List ℕ) (may : Option (List (List ℕ))) → IsAllowed (Some v) may → IsAllowed (Some v) (if t then None else may)
allowed-unless t v may a = grind arith

module _ {s : Setup} {host : HostSetup} {h : List Entry} (run : HasHost s host h) (slot : SlotSetup) (there : Contains s.slots slot) (sct : ℕ)
    (dev : TargetId) (k : ℕ) (fate : Fate) (law : IsSomeAnd (slot_of s dev) (λ z. IsArrival s z h k fate)) where
  abbrev n : List Entry
  n = Arrived dev k fate ∷ h

  -- no write beside a flush
  beside : (c : ℕ) (v : List ℕ) → IsFlying host h c → AsksAt slot (submission host h c) Flush → Writer (IsUnderWay s.life host h) (wr host slot h sct) v → ⊥
  beside c v fl asks w =
      let holds = holds-of s host h run in
      let u = w.under_way in
      none-beside-flush s.life host h holds.base holds.gone slot sct c w.ticket fl.0 u.0 v fl.1 u.1 fl.2 u.2 asks w.writes_it

  marks-after : (c : ℕ) → IsFlying host h c → AsksAt slot (submission host h c) Flush → (alone host slot h sct ≡ true → marked_after slot h sct ≡ false)
      → alone host slot n sct ≡ true → marked_after slot n sct ≡ false
  marks-after c fl asks m al = elim (arrival run slot there sct dev k fate law) [
    | inl away ↦ (same-sector sct away.1).1 ∙ m was.0
    | inr here ↦ by-act here here.act
  ]
    where
      was : (alone host slot h sct ≡ true)
          × ((is_slot slot dev && (stores fate sct || breaks (verdict_after slot h (bytes_of h k)) fate sct)) ≡ true → is_from host (bytes_of h k) ≡ true)
      was = was-alone host slot h dev k fate sct al

      by-act : (x : IsHere s.life slot h dev k fate sct)
          → Act (verdict_after slot h x.frame) x.frame fate sct (known_after slot h sct) (known_after slot n sct) (marked_after slot h sct)
          (marked_after slot n sct)
          → marked_after slot n sct ≡ false
      by-act x (showed shown p q a b) = q ∙ m was.0
      by-act x (put span v p q a b) =
          absurd (beside c _ fl asks (writer run slot there sct k x.frame span x.fresh (rw x.bytes at (was.1 (rw (x.is, a) refl))) v))
      by-act x (spoilt span v q a b) =
          absurd (beside c _ fl asks (writer run slot there sct k x.frame span x.fresh (rw x.bytes at (was.1 (rw (x.is, x.bytes, a, b) refl))) v))
      by-act x (synced p q a b) = q

  pub arrived-passes : Passes host slot h n sct
  arrived-passes = record {
    sent = λ c x e. (x, e, refl, omega arith);
    flying = λ c d. d;
    asked = λ c x e. refl;
    stored = λ c l. or-right _ _ l;
    marks = marks-after;
    reads = λ c span fl asks i v m al. allowed-unless _ v _ (m (was-alone host slot h dev k fate sct al).0);
  }

-- CRASHES

unmarked : (slot : SlotSetup) (u : Unsettled) (how : Loss) (o : Option Sectors) (s : ℕ) → marked_in (option_map (left_sectors slot u how) o) s ≡ false
unmarked slot u how o s = grind arith

crash-marks : (slot : SlotSetup) (h : List Entry) (dev : TargetId) (lists : Settings) (how : Loss) (s : ℕ) → marked_after slot h s ≡ false
    → marked_after slot (Crashed dev lists how ∷ h) s ≡ false
crash-marks slot h dev lists how s m = grind (arith, unmarked)

pub crashed-passes : (host : HostSetup) (slot : SlotSetup) (h : List Entry) (dev : TargetId) (lists : Settings) (how : Loss) (s : ℕ)
    → Passes host slot h (Crashed dev lists how ∷ h) s
crashed-passes host slot h dev lists how s = grind (arith, crash-marks, allowed-unless)

left-known : (slot : SlotSetup) (u : Unsettled) (how : Loss) (o : Option Sectors) (s : ℕ) (y : Sectors) → o ≡ Some y
    → known_in (option_map (left_sectors slot u how) o) s ≡ (if marked_in o s then lost slot.cache u how s (y.known s) (y.settled s) else known_in o s)
left-known slot u how o s y e = rw e refl

pub crashed-at : (life : Lifetimes) (host : HostSetup) (slot : SlotSetup) (h : List Entry) (dev : TargetId) (lists : Settings) (how : Loss) (s : ℕ)
    → At life host slot h s → At life host slot (Crashed dev lists how ∷ h) s
crashed-at life host slot h dev lists how s x = elim (either (is_slot slot dev) (after_crash slot lists how (slot_after slot h)) (slot_after slot h)) [
  | inl hit ↦ (let y = sectors-there slot h in
      let u = (slot_after slot h).unsettled in
      let o = (state_after slot h).sectors in
      let now = same-sector s hit.1 in
      rw (now.0 ∙ left-known slot u how o s y.0 y.1, now.1 ∙ unmarked slot u how o s, hit.0) (crashes x _))
  | inr away ↦ (let was = same-sector s away.1 in rw (was.0, was.1, away.0) x)
]

-- SENDS

also-allowed : (t : Bool) (w : Option (List ℕ)) (v : List ℕ) (may : Option (List (List ℕ))) → IsAllowed (Some v) may
    → IsAllowed (Some v) (if t then also w may else may)
also-allowed t w v may a = grind (arith, allowed-also)

pub sent-passes : {life : Lifetimes} {host : HostSetup} {h : List Entry} (slot : SlotSetup) (name : ArrayVec ℕ) (c number : ℕ) (f : List ℕ) (s : ℕ)
    → Base life host h
    → Passes host slot h (Sent name c number f ∷ h) s
sent-passes {life} {host} {h} slot name c number f s b = record {
  sent = λ d x e. again d x e (is_called host name && nat_eq c d) refl;
  flying = λ d e. e;
  asked = λ d x e. refl;
  stored = λ d l. l;
  marks = λ d fl asks m al. m al;
  reads = λ d span fl asks i v m al. also-allowed _ _ v _ (m al);
}
  where
    again : (d : ℕ) (x : Sending) → sends_of host h d ≡ Some x → (t : Bool) → (is_called host name && nat_eq c d) ≡ t
        → (y : Sending) × (sends_of host (Sent name c number f ∷ h) d ≡ Some y) × (y.tag ≡ x.tag) × (x.last.0 ≤ y.last.0)
    again d x e true q =
        let l = b.last d x e in
        let path = path_of host (submission host h c) f in
        let t = timeout_at host h d c f in
        let now : Millis = record { 0 = clock h } in
        let n = ap (λ (m : Millis). m.0) (base.more-last (fields f).tag now path t (sends_of host h d)) in
        (base.more host h c f d, rw q refl, base.more-tag (fields f).tag now path t x (sends_of host h d) e, omega arith)
    again d x e false q = (x, rw q e, refl, omega arith)
