-- A frame that comes to a slot: its fate is lawful, and the disks of the slot are afterwards what the history says.
use Rattle.std.proofs.Common.{◌||◌, ◌≡◌, Bool, true, false, if◌then◌else◌, ℕ, List, ◌∷◌, Option, Some, None, inl, inr, is_none, is_some, refl, sym, ap, ◌∙◌, arith}
use Rattle.std.proofs.lemmas.Bool.{cases_Bool, OnTrue_at, OnTrue_from}
use Rattle.std.specs.Option.{option_map}
use Rattle.aoe_cache.specs.Any.{any_state, any_under}
use Rattle.aoe_base.proofs.CommonLemmas.{not-both}
use Rattle.aoe_disk.specs.Calls.{IsRun}
use Rattle.aoe_disk.specs.Memory.{schedule_of, state_of}
use Rattle.aoe_disk.specs.State.{BothTell, Contents}
use Rattle.aoe_disk.specs.declared.loss.Loss.{Loss}
use Rattle.aoe_initiator.proofs.NameLemmas.{same_id-refl}
use Rattle.aoe_store.specs.Under.{CallsUnder, Under}
use Rattle.aoe_target.specs.declared.heard.Heard.{Heard}
use Rattle.aoe_target.specs.declared.verdict.Verdict.{Verdict}
use Rattle.aoe_target.specs.Device.{State}
use Rattle.aoe_target.specs.Law.{after, Allows}
use Rattle.aoe_target.specs.Receive.{fate_of, is_faulty, is_unkept, MovesUnder}
use Rattle.aoe_target.specs.Turn.{Receives, TurnsDisk}
use Rattle.aoe_history.specs.declared.entry.Entry.{Entry}
use Rattle.aoe_history.specs.declared.entry.Entry.TheVariants.{Arrived}
use Rattle.aoe_history.specs.declared.entry.Fate.{Fate}
use Rattle.aoe_history.specs.declared.entry.Fate.TheVariants.{Cut}
use Rattle.aoe_history.specs.Frames.{bytes_of}
use Rattle.aoe_history.specs.Groups.{IsStop}
use Rattle.aoe_history.specs.Setup.{is_slot, SlotSetup}
use Rattle.aoe_history.specs.ShelfLaw.{calls, one_more, stretch, IsStruckBy, KeepsArming, KeepsShelfLaw, Stretch}
use Rattle.aoe_history.specs.Slots.{after_frame, is_struck, slot_after, state_after, verdict_after}
use Rattle.aoe_script.specs.declared.event.Which.{Which}
use Rattle.aoe_script.specs.declared.event.Which.TheVariants.{Store, Keep}
use Rattle.aoe_sim_shelves.specs.declared.shelf.Stops.{Stops}
use Rattle.aoe_sim_shelves.specs.Arrival.{noted, stop_at}
use Rattle.aoe_sim_shelves.specs.Shelf.{stop_in, HoldsWithin, IsDue, IsServing, IsStanding, IsStoreDue, HasCache}
use Rattle.aoe_sim_shelves.proofs.DueLemmas.{due-store-then, due-then, struck-in-turn, struck-store, Strikes}
use Rattle.aoe_sim_shelves.proofs.FateLemmas.{called-kept, edited-done, faulty-calls, loss-of, noted-fate, noted-faulty, noted-strike, noted-unkept, one-disk, stop-of, unkept-calls, Runs}
use Rattle.aoe_sim_shelves.proofs.StepLemmas.{held, known_in, stepped, StepsWithin}
use Rattle.aoe_sim_shelves.proofs.UnderLemmas.{moves-calls, under-failed, under-idle, under-noted}
use Rattle.aoe_sim_shelves.proofs.Words.{device, Target}

-- A SLOT AFTER AN ARRIVAL

-- the stretch of a disk after a frame
abbrev pub stretch_then : Which → SlotSetup → List Entry → List ℕ → Fate → Option Stretch
stretch_then which slot h f fate = if calls which slot h f then option_map (one_more fate) (stretch which slot h) else stretch which slot h

pub record Follows (slot : SlotSetup) (h : List Entry) (f : List ℕ) (fate : Fate) (n : List Entry) : Type 0 where
  pub known : slot_after slot n ≡ after_frame slot f fate (slot_after slot h)
  pub stretches : (which : Which) → stretch which slot n ≡ stretch_then which slot h f fate

pub follows : (slot : SlotSetup) (h : List Entry) (number : ℕ) (f : List ℕ) (fate : Fate) → bytes_of h number ≡ f
    → Follows slot h f fate (Arrived slot.station.id number fate ∷ h)
follows slot h number f fate bytes =
    let mine : is_slot slot slot.station.id ≡ true = same_id-refl slot.station.id in
    record { known = rw (mine, bytes); stretches = λ which. rw (mine, bytes) }

-- WHAT A TARGET DID, in the words of a history

-- what is known when a frame was handed to a target
abbrev pub Meets : List ℕ → Heard → List ℕ → Target → Target → Type 0
Meets f x out t u = Receives (any_state state_of) state_of t u f x out × TurnsDisk (any_state state_of) (any_under state_of) f x t u

pub record Takes (slot : SlotSetup) (h : List Entry) (f : List ℕ) (x : Heard) (out : List ℕ) (t u : Target) : Type 0 where
  pub station : u.station ≡ slot.station
  pub allowed : Allows slot.station (state_after slot h) f (verdict_after slot h f) (fate_of x out)
  pub holds : HoldsWithin slot.station.sectors (device u) (after slot.station f (verdict_after slot h f) (fate_of x out) (state_after slot h))
  pub call : calls Store slot h f ≡ true → IsRun 1 (is_faulty x) (any_state state_of t.store) (any_state state_of u.store)
  pub idle : calls Store slot h f ≡ false → u.store ≡ t.store
  pub turns : MovesUnder (verdict_after slot h f) (is_faulty x) (any_state state_of t.store).contents (any_under state_of t.store) (any_under state_of u.store)
  pub edit : calls Keep slot h f ≡ true → IsRun 6 (is_unkept x) (state_of t.keep.disk) (state_of u.keep.disk)
  pub unedited : calls Keep slot h f ≡ false → u.keep ≡ t.keep

-- a store stays one with a cache, or one without
kind-kept : (v : Verdict) (failed : Bool) (shown : Option Contents) (x y : Option Under) → MovesUnder v failed shown x y → is_none y ≡ is_none x
kind-kept v failed shown x y p = grind arith

pub takes : {slot : SlotSetup} {h : List Entry} {f : List ℕ} {x : Heard} {out : List ℕ} {t u : Target} → IsStanding slot h t → Meets f x out t u
    → Takes slot h f x out t u
takes {slot} {h} {f} {x} {out} {t} {u} k m =
    let r = m.0 in
    let turns = rw (k.station, k.holds.lists) at m.1 in
    let kind = kind-kept _ _ _ _ _ turns in
    let known : State = known_in t (state_after slot h) in
    let step : StepsWithin slot.station (state_after slot h) f (fate_of x out) u =
    stepped slot.station (state_after slot h) f (fate_of x out) t u kind k.holds
    (rw k.station at (r.step known (held slot.station.sectors t (state_after slot h) k.holds))) in
    record {
      station = r.station ∙ k.station;
      allowed = step.allowed;
      holds = step.holds;
      call = λ c. OnTrue_at c (rw (k.station, k.holds.lists) at r.call);
      idle = rw (k.station, k.holds.lists) at r.idle;
      turns = turns;
      edit = λ c. (OnTrue_at c (rw (k.station, k.holds.lists) at r.edit)).calls;
      unedited = λ c. r.unedited (rw (k.station, k.holds.lists) c);
    }

-- WHAT IS ARMED

stop-same : (b : Bool) (x : Option Stretch) (fate : Fate) → stop_in (if b then option_map (one_more fate) x else x) ≡ stop_in x
stop-same b x fate = grind arith

-- the slot goes on
pub record Continues (slot : SlotSetup) (h : List Entry) (f : List ℕ) (fate : Fate) (n : List Entry) (u : Target) (stops : Stops) : Type 0 where
  pub law : KeepsShelfLaw slot h f fate
  pub arming : KeepsArming slot h f fate
  pub serving : IsServing slot n u stops

-- or the power is lost
pub record Breaks (slot : SlotSetup) (h : List Entry) (f : List ℕ) (how : Loss) (n : List Entry) (u : Target) : Type 0 where
  pub law : KeepsShelfLaw slot h f Cut
  pub arming : KeepsArming slot h f Cut
  pub stop : IsStop slot h f how
  pub standing : IsStanding slot n u

module _ {slot : SlotSetup} {h : List Entry} {f : List ℕ} {x : Heard} {out : List ℕ} {t u : Target} {stops : Stops}
    (k : IsServing slot h t stops) (z : Takes slot h f x out t u) where
  abbrev v : Verdict
  v = verdict_after slot h f

  -- the device calls of the store's disk
  under-calls : calls Store slot h f ≡ true → BothTell (CallsUnder (is_faulty x)) (any_under state_of t.store) (any_under state_of u.store)
  under-calls c = moves-calls v (is_faulty x) _ _ _ c z.turns

  -- which frames are struck
  store-struck : (fate : Fate) (c : calls Store slot h f ≡ true) → is_struck fate ≡ is_faulty x → Strikes (is_faulty x) (stretch Store slot h) fate
      → IsStruckBy Store slot (stretch Store slot h) fate
  store-struck fate c is strikes =
      struck-store (stretch Store slot h) fate (is_faulty x) is slot.station.sectors (slot_after slot h) slot.cache t.store u.store k.under k.store_due
      (z.call c) (under-calls c) strikes

  keep-struck : (fate : Fate) (c : calls Keep slot h f ≡ true) → is_struck fate ≡ is_unkept x → Strikes (is_unkept x) (stretch Keep slot h) fate
      → IsStruckBy Keep slot (stretch Keep slot h) fate
  keep-struck fate c is strikes = struck-in-turn Keep (z.edit c).schedule (stretch Keep slot h) k.keep_due fate is strikes

  -- no call failed in a stop
  module _ (r : Runs stops x) (fresh : ℕ) (n : List Entry) (flow : Follows slot h f (noted None x fresh out) n) where
    abbrev fate : Fate
    fate = noted None x fresh out

    struck-is : calls Store slot h f ≡ true → is_struck fate ≡ is_faulty x
    struck-is c = noted-faulty x fresh out (called-kept slot.station (state_after slot h) f v x out z.allowed c)

    law : KeepsShelfLaw slot h f fate
    law = rw (noted-fate x fresh out) z.allowed

    store-then : IsStoreDue (stretch_then Store slot h f fate) u.store
    store-then = elim (cases_Bool (calls Store slot h f)) [
      | inl c ↦
          rw c (due-store-then (stretch Store slot h) fate (is_faulty x) (struck-is c) t.store u.store k.store_due (z.call c) (under-calls c)
          (λ e. sym k.store_stop ∙ r.store e))
      | inr c ↦ rw (c, z.idle c) k.store_due
    ]

    keep-then : IsDue Keep (stretch_then Keep slot h f fate) (schedule_of u.keep.disk.arming u.keep.disk.out)
    keep-then = elim (cases_Bool (calls Keep slot h f)) [
      | inl c ↦ rw c (due-then Keep (z.edit c).schedule (stretch Keep slot h) k.keep_due fate (λ e. sym k.keep_stop ∙ r.keep e))
      | inr c ↦ rw (c, z.unedited c) k.keep_due
    ]

    under-then : HasCache slot.station.sectors slot.cache (after_frame slot f fate (slot_after slot h)) (any_under state_of u.store)
    under-then = elim (cases_Bool (calls Store slot h f)) [
      | inl c ↦
          under-noted slot.station.sectors slot f (slot_after slot h) _ _ c _ k.holds.sectors k.under fresh out x (struck-is c) z.turns z.allowed
      | inr c ↦ rw (z.idle c) (under-idle slot.station.sectors slot f (slot_after slot h) fate _ c law k.under)
    ]

    pub continues : Continues slot h f fate n u stops
    continues = record {
      law = law;
      arming = record {
        store = OnTrue_from _ _ (λ c. store-struck fate c (struck-is c) (λ e y mode. noted-strike x fresh out y (mode ∙ sym k.store_stop ∙ r.store e)));
        keep = OnTrue_from _ _ (λ c.
            let done = edited-done slot.station (state_after slot h) f v x out z.allowed c in
            keep-struck fate c (noted-unkept x fresh out done) (λ e y mode. noted-strike x fresh out y (mode ∙ sym k.keep_stop ∙ r.keep e)));
      };
      serving = record {
        station = z.station;
        under = rw flow.known under-then;
        holds = rw (flow.known, state_after, noted-fate x fresh out) z.holds;
        store_due = rw (flow.stretches Store) store-then;
        keep_due = rw (flow.stretches Keep) keep-then;
        store_stop = rw (flow.stretches Store, stop-same (calls Store slot h f) (stretch Store slot h) fate) k.store_stop;
        keep_stop = rw (flow.stretches Keep, stop-same (calls Keep slot h f) (stretch Keep slot h) fate) k.keep_stop;
      };
    }

  -- a call failed in a stop
  module _ (how : Loss) (n : List Entry) (flow : Follows slot h f Cut n) where
    -- what is left of the device, where the power is lost in such a call
    cut-under : KeepsShelfLaw slot h f Cut → HasCache slot.station.sectors slot.cache (after_frame slot f Cut (slot_after slot h)) (any_under state_of u.store)
    cut-under allowed = elim (cases_Bool (calls Store slot h f)) [
      | inl c ↦
          under-failed slot.station.sectors slot f (slot_after slot h) _ _ c Cut (is_faulty x) refl (under-calls c) k.under
      | inr c ↦ rw (z.idle c) (under-idle slot.station.sectors slot f (slot_after slot h) Cut _ c allowed k.under)
    ]

    broken : (is_faulty x || is_unkept x) ≡ true → KeepsArming slot h f Cut → IsStop slot h f how → Breaks slot h f how n u
    broken failed arming stop =
        let loss = loss-of slot.station (state_after slot h) f v x out z.allowed failed in
        record {
          law = loss.allowed;
          arming = arming;
          stop = stop;
          standing = record {
            station = z.station;
            under = rw flow.known (cut-under loss.allowed);
            holds = rw (flow.known, state_after) (rw loss.left at z.holds);
          };
        }

    store-breaks : is_faulty x ≡ true → stops.store ≡ Some how → Breaks slot h f how n u
    store-breaks failed stop =
        let called : calls Store slot h f ≡ true = faulty-calls slot.station (state_after slot h) f v x out z.allowed failed in
        broken (rw failed) (record {
          store = OnTrue_from _ _ (λ c. store-struck Cut c (sym failed) (λ e y mode. ap is_some (mode ∙ sym k.store_stop ∙ stop)));
          keep = OnTrue_from _ _ (λ c. absurd (not-both _ c (one-disk slot.station (state_after slot h) f v called)));
        }) (record { which = Store; called = called; mode = sym k.store_stop ∙ stop })

    keep-breaks : is_unkept x ≡ true → stops.keep ≡ Some how → Breaks slot h f how n u
    keep-breaks failed stop =
        let called : calls Keep slot h f ≡ true = unkept-calls slot.station (state_after slot h) f v x out z.allowed failed in
        broken (grind arith) (record {
          store = OnTrue_from _ _ (λ c. absurd (not-both _ called (one-disk slot.station (state_after slot h) f v c)));
          keep = OnTrue_from _ _ (λ c. keep-struck Cut c (sym failed) (λ e y mode. ap is_some (mode ∙ sym k.keep_stop ∙ stop)));
        }) (record { which = Keep; called = called; mode = sym k.keep_stop ∙ stop })

    pub breaks : stop_at stops x ≡ Some how → Breaks slot h f how n u
    breaks is = elim (stop-of stops how x is) [ inl s ↦ store-breaks s.0 s.1 | inr s ↦ keep-breaks s.0 s.1 ]
