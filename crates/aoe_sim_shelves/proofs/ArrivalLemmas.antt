-- A frame that comes to one slot of a shelf, and to one after the other.
use Rattle.std.proofs.Common.{◌≡◌, ◌≤◌, inl, inr, ℕ, suc, List, [], ◌∷◌, length, get_or, drop, Option, Some, None, refl, sym, ◌∙◌, arith}
use Rattle.std.proofs.lemmas.Grind.{common_steps}
use Rattle.std.proofs.lemmas.List.{drop_all, set-get_or}
use Rattle.std.proofs.lemmas.Option.{gets, slice_get-get_or, slice_get_within}
use Rattle.std.specs.Prelude.{slice_get, IsSomeAnd}
use Rattle.aoe_base.specs.declared.address.TargetId.{TargetId}
use Rattle.aoe_base.specs.declared.counted.Lifetimes.{Lifetimes}
use Rattle.aoe_disk.specs.declared.loss.Loss.{Loss}
use Rattle.aoe_net.specs.declared.refusal.NetLimit.{NetLimit}
use Rattle.aoe_net.specs.Network.{fresh_bytes, numbered}
use Rattle.aoe_shelf.specs.Slot.{ChangesAt}
use Rattle.aoe_target.specs.declared.heard.Heard.{Heard}
use Rattle.aoe_target.specs.declared.heard.Heard.TheVariants as heard
use Rattle.aoe_history.specs.declared.entry.Entry.{Entry}
use Rattle.aoe_history.specs.declared.entry.Entry.TheVariants.{Arrived}
use Rattle.aoe_history.specs.declared.entry.Fate.{Fate}
use Rattle.aoe_history.specs.declared.entry.Fate.TheVariants.{Cut, Replied}
use Rattle.aoe_history.specs.Frames.{arriving, clock, frames, network, next_number}
use Rattle.aoe_history.specs.Groups.{ArriveAtEach, ArriveAtSome, CrashEach, CrashSome}
use Rattle.aoe_history.specs.Lawful.{IsNumbered, MayCome}
use Rattle.aoe_history.specs.Setup.{Setup, SlotSetup}
use Rattle.aoe_history.specs.ShelfLaw.{KeepsArming, KeepsShelfLaw}
use Rattle.aoe_history.specs.Run.{MeetsFull}
use Rattle.aoe_history.proofs.FrameLemmas.{bytes-arriving, numbered-later}
use Rattle.aoe_history.proofs.FullLemmas.{full-by, full-more}
use Rattle.aoe_history.proofs.LogicLemmas.{some-then}
use Rattle.aoe_sim_shelves.specs.declared.shelf.Stops.{Stops}
use Rattle.aoe_sim_shelves.specs.Arrival.{noted, stop_at, ComesToSlot, GoesOn, IsCut, IsReached, IsReplyFull}
use Rattle.aoe_sim_shelves.specs.Shelf.{IsServing, SimShelf}
use Rattle.aoe_sim_shelves.proofs.Apart.{says-arrived, serves-on, serves-stands, serving-stands, stands-on}
use Rattle.aoe_sim_shelves.proofs.FateLemmas.{noted-uncut, runs-on}
use Rattle.aoe_sim_shelves.proofs.SlotLemmas.{breaks, continues, follows, takes, Breaks, Continues, Meets, Takes}
use Rattle.aoe_initiator.proofs.ListLemmas.{get-there as there}

-- THE FRAME

-- a frame can be handed over after another frame came to a shelf
still-arriving : (life : Lifetimes) (h : List Entry) (number : ℕ) (f : List ℕ) (dev : TargetId) (frame : ℕ) (fate : Fate) → arriving life h number ≡ Some f
    → arriving life (Arrived dev frame fate ∷ h) number ≡ Some f
still-arriving life h number f dev frame (Replied effect n bytes) e =
    let found = some-then (fresh_bytes (network life h) (clock h)) (numbered (frames h) number) f e in
    rw (numbered-later (record { bytes = bytes; birth = clock h }) (frames h) number found.0 found.1) found.2
still-arriving life h number f dev frame _ e = e

noted-number : (stop : Option Loss) (w : Heard) (next : ℕ) (out : List ℕ) → IsNumbered next (noted stop w next out)
noted-number stop w next out = grind arith

drop-at : (slots : List SlotSetup) (i : ℕ) (slot : SlotSetup) → slice_get slots i ≡ Some slot → drop i slots ≡ slot ∷ drop (suc i) slots
drop-at slots i slot e = grind (arith, common_steps, gets)

-- it may be that it comes to no slot more
some-here : (number : ℕ) (f : List ℕ) (shelf slots : List SlotSetup) (m : List Entry) → ArriveAtSome number f shelf slots m m
some-here number f shelf [] m = refl
some-here number f shelf (slot ∷ slots) m = inl refl

-- ONE SLOT

-- what the code knows of one arrival: how the targets changed, and the stop by what was read of the stops
pub record IsTurn (i : ℕ) (f : List ℕ) (w : Heard) (out : List ℕ) (x y : SimShelf) (d : Stops) (dev : TargetId) (stop : Option Loss) : Type 0 where
  pub change : ChangesAt i (Meets f w out) x.shelf.targets y.shelf.targets
  pub same : y.stops ≡ x.stops
  pub name : IsSomeAnd (slice_get x.shelf.targets i) (λ t. dev ≡ t.station.id)
  pub count : length x.stops ≡ length x.shelf.targets
  pub is : stop ≡ stop_at (get_or x.stops i d) w

module _ {i : ℕ} {f : List ℕ} {w : Heard} {out : List ℕ} {x y : SimShelf} {d : Stops} {dev : TargetId} {stop : Option Loss}
    (z : IsTurn i f w out x y d dev stop)
    {s : Setup} {slots : List SlotSetup} {number : ℕ} {h : List Entry} (r : IsReached s slots number f h x) where
  abbrev armed : Stops
  armed = get_or x.stops i d

  slot-here : (slot : SlotSetup) × (slice_get slots i ≡ Some slot)
  slot-here = there slots i (omega (arith, slice_get_within x.shelf.targets i z.change.before z.change.found, r.serves.count))

  stops-at : slice_get x.stops i ≡ Some armed
  stops-at = slice_get-get_or x.stops i d (omega (arith, slice_get_within x.shelf.targets i z.change.before z.change.found, z.count))

  module _ (slot : SlotSetup) (found : slice_get slots i ≡ Some slot) where
    abbrev came : Fate → List Entry
    came fate = Arrived slot.station.id number fate ∷ h

    served : IsServing slot h z.change.before armed
    served = r.serves.each i slot z.change.before armed found z.change.found stops-at

    taken : Takes slot h f w out z.change.before z.change.after
    taken = takes (serving-stands served) z.change.change

    may-come : (fate : Fate) → KeepsShelfLaw slot h f fate → KeepsArming slot h f fate → IsNumbered (next_number h) fate
        → MayCome s h (Arrived slot.station.id number fate)
    may-come fate law arming numbered =
        rw (r.shelf.there i slot found) (record { bytes = f; fresh = r.fresh; law = law; arming = arming; numbered = numbered })

    goes-on : stop_at armed w ≡ None → GoesOn s slots i number f h (came (noted None w (next_number h) out)) y
    goes-on none =
        let fate : Fate = noted None w (next_number h) out in
        let k : Continues slot h f fate (came fate) z.change.after armed =
        continues served taken (runs-on armed w none) (next_number h) _ (follows slot h number f fate (bytes-arriving s.life h number f r.fresh)) in
        let stops : ChangesAt i (λ a b. Unit {0}) x.stops y.stops =
        record { before = armed; after = armed; found = stops-at; others = z.same ∙ sym (set-get_or x.stops i d); change = tt } in
        record {
          slot = slot;
          found = found;
          fate = fate;
          uncut = noted-uncut w (next_number h) out;
          entry = refl;
          reached = record {
            shelf = r.shelf;
            serves = serves-on r.shelf.apart found (λ other ne. says-arrived other h slot.station.id ne number fate) z.change stops r.serves k.serving;
            lawful = (may-come fate k.law k.arming (noted-number None w (next_number h) out), r.lawful);
            fresh = still-arriving s.life h number f slot.station.id number fate r.fresh;
          };
        }

    is-cut : (how : Loss) → stop_at armed w ≡ Some how → IsCut s slots i number f how h (came Cut) y
    is-cut how some =
        let k : Breaks slot h f how (came Cut) z.change.after =
        breaks served taken how _ (follows slot h number f Cut (bytes-arriving s.life h number f r.fresh)) some in
        record {
          slot = slot;
          found = found;
          stop = k.stop;
          entry = refl;
          stands = stands-on r.shelf.apart found (λ other ne. says-arrived other h slot.station.id ne number Cut) z.change z.same
              (serves-stands slots h x r.serves) k.standing;
          lawful = (may-come Cut k.law k.arming tt, r.lawful);
        }

    comes : (o : Option Loss) → o ≡ stop_at armed w → ComesToSlot s slots i number f o h (came (noted o w (next_number h) out)) y
    comes None is = goes-on (sym is)
    comes (Some how) is = is-cut how (sym is)

    -- or its reply is the next frame, for which there is no room
    no-room : {limit : NetLimit} (life : Lifetimes) (o : Option Loss) (v : Heard) → o ≡ stop_at armed w → w ≡ v → IsReplyFull o v limit (network life h) out
        → MeetsFull s (ArriveAtSome number f slots (drop i slots) h) limit h
    no-room {limit} life None (heard.Replied e) is same full =
        let fate : Fate = Replied e (next_number h) out in
        record {
          entry = Arrived slot.station.id number fate;
          called_for = rw (drop-at slots i slot found)
              (inr (inl (fate, noted-uncut (heard.Replied e) (next_number h) out, some-here number f slots (drop (suc i) slots) (came fate))));
          may_come = rw same at (goes-on (sym is)).reached.lawful.0;
          bytes = out;
          brings = refl;
          full = full-by limit life s.life h out full;
        }
    no-room life _ _ is same full = absurd full

  -- the frame came to the slot
  pub turn-comes : (m : List Entry) → m ≡ Arrived dev number (noted stop w (next_number h) out) ∷ h → ComesToSlot s slots i number f stop h m y
  turn-comes m e =
      let slot = slot-here in
      let name : dev ≡ slot.0.station.id = rw (z.change.found, (served slot.0 slot.1).station) at z.name in
      rw (e, name) (comes slot.0 slot.1 stop z.is)

  pub turn-full : {limit : NetLimit} (life : Lifetimes) → IsReplyFull stop w limit (network life h) out
      → MeetsFull s (ArriveAtSome number f slots (drop i slots) h) limit h
  turn-full life full = let slot = slot-here in no-room slot.0 slot.1 life stop w z.is refl full

-- ONE SLOT AFTER THE OTHER

-- a frame came to the first slots of a shelf
pub record Passes (s : Setup) (slots : List SlotSetup) (i number : ℕ) (f : List ℕ) (h m : List Entry) (x : SimShelf) : Type 0 where
  pub reached : IsReached s slots number f m x
  pub each : (n : List Entry) → ArriveAtEach number f slots (drop i slots) m n → ArriveAtEach number f slots slots h n
  pub some : (n : List Entry) → ArriveAtSome number f slots (drop i slots) m n → ArriveAtSome number f slots slots h n

module _ {s : Setup} {slots : List SlotSetup} {i number : ℕ} {f : List ℕ} {h m : List Entry} {x : SimShelf} (p : Passes s slots i number f h m x) where
  pub passes-on : {n : List Entry} {y : SimShelf} (j : ℕ) → j ≡ suc i → GoesOn s slots i number f m n y → Passes s slots j number f h n y
  passes-on j next g = record {
    reached = g.reached;
    each = λ l q. p.each l (rw (drop-at slots i g.slot g.found) (inl (g.fate, g.uncut, rw (next, g.entry) at q)));
    some = λ l q. p.some l (rw (drop-at slots i g.slot g.found) (inr (inl (g.fate, g.uncut, rw (next, g.entry) at q))));
  }

  pub passes-all : length slots ≤ i → ArriveAtEach number f slots slots h m
  passes-all le = p.each m (rw (drop_all i slots le) refl)

  -- no room for the reply of a slot
  pub passes-full : {limit : NetLimit} (n : List Entry) → MeetsFull s (ArriveAtSome number f slots (drop i slots) m) limit n
      → MeetsFull s (ArriveAtSome number f slots slots h) limit n
  passes-full n full = full-more s (ArriveAtSome number f slots (drop i slots) m) (ArriveAtSome number f slots slots h) n p.some full

  pub passes-some : ArriveAtSome number f slots slots h m
  passes-some = p.some m (some-here number f slots (drop i slots) m)

  -- the power was lost at a slot
  module _ {how : Loss} {n : List Entry} {y : SimShelf} (g : IsCut s slots i number f how m n y) (l : List Entry) where
    pub crashed-each : CrashEach how slots n l → ArriveAtEach number f slots slots h l
    crashed-each q = p.each l (rw (drop-at slots i g.slot g.found) (inr (how, g.stop, rw g.entry at q)))

    pub crashed-some : CrashSome how slots n l → ArriveAtSome number f slots slots h l
    crashed-some q = p.some l (rw (drop-at slots i g.slot g.found) (inr (inr (how, g.stop, rw g.entry at q))))
