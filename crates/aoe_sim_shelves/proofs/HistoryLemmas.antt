-- What a history says of slots that lost their power.
use Rattle.std.proofs.Common.{◌≡◌, ◌≢◌, ◌≤◌, ◌+◌, inl, inr, ℕ, zero, suc, true, false, List, [], ◌∷◌, ◌++◌, length, take, replicate, Option, Some, None, refl, sym, ◌∙◌, arith}
use Rattle.std.specs.Prelude.{slice_get, IsSomeAnd}
use Rattle.std.proofs.lemmas.Grind.{common_steps}
use Rattle.std.proofs.lemmas.List.{length-take}
use Rattle.std.proofs.lemmas.Option.{gets, slice_get_within}
use Rattle.aoe_disk.specs.declared.loss.Loss.{Loss}
use Rattle.aoe_lists.specs.Settings.{Settings}
use Rattle.aoe_target.specs.Device.{MayStand}
use Rattle.aoe_history.specs.declared.entry.Entry.{Entry}
use Rattle.aoe_history.specs.declared.entry.Entry.TheVariants.{Crashed}
use Rattle.aoe_history.specs.Groups.{CrashEach, CrashSome}
use Rattle.aoe_history.specs.Lawful.{IsLawful, MayCome}
use Rattle.aoe_history.specs.Setup.{is_slot, AreApart, AreSlots, Setup, SlotSetup}
use Rattle.aoe_history.specs.ShelfLaw.{stretch}
use Rattle.aoe_history.specs.Slots.{after_crash, slot_after, state_after}
use Rattle.aoe_history.specs.Run.{with_entry, Recorded}
use Rattle.aoe_script.specs.declared.event.Which.{Which}
use Rattle.aoe_script.specs.declared.event.Which.TheVariants.{Store, Keep}
use Rattle.aoe_sim_shelves.specs.declared.shelf.Stops.{Stops}
use Rattle.aoe_sim_shelves.specs.Crash.{with_crashes, RestartEach}
use Rattle.aoe_sim_shelves.specs.Shelf.{IsServing, SimShelf, Serves, Stands}
use Rattle.aoe_sim_shelves.proofs.Apart.{says-crashed, SaysSame}
use Rattle.aoe_sim_shelves.proofs.CrashLemmas.{keep_unarmed, restarted, restarted_lists, store_unarmed}
use Rattle.aoe_sim_shelves.proofs.FrontLemmas.{get_replicate, get_take, was}
use Rattle.aoe_sim_shelves.proofs.Words.{Target}
use Rattle.aoe_initiator.proofs.ListLemmas.{get-there as there}
use Rattle.aoe_initiator.proofs.NameLemmas.{same_id-refl}

-- ONE SLOT

-- it lost its power, and nothing else is said of it
record CrashesTo (slot : SlotSetup) (lists : Settings) (how : Loss) (h m : List Entry) : Type 0 where
  pub known : slot_after slot m ≡ after_crash slot lists how (slot_after slot h)
  pub stretches : (which : Which) → stretch which slot m ≡ None

module _ (slot : SlotSetup) (how : Loss) where
  passed : (ts : List Target) (h : List Entry) → ((j : ℕ) (t : Target) → slice_get ts j ≡ Some t → is_slot slot t.station.id ≡ false)
      → SaysSame slot h (with_crashes how ts h)
  passed [] h other = record { known = refl; stretches = λ which. refl }
  passed (t ∷ ts) h other =
      let first = says-crashed slot h t.station.id (other 0 t refl) t.keep.lists how in
      let rest = passed ts (Crashed t.station.id t.keep.lists how ∷ h) (λ j. other (suc j)) in
      record { known = rest.known ∙ first.known; stretches = λ which. rest.stretches which ∙ first.stretches which }

  struck : (ts : List Target) (i : ℕ) (t : Target) (h : List Entry) → slice_get ts i ≡ Some t → is_slot slot t.station.id ≡ true
      → ((j : ℕ) (u : Target) → slice_get ts j ≡ Some u → j ≢ i → is_slot slot u.station.id ≡ false)
      → CrashesTo slot t.keep.lists how h (with_crashes how ts h)
  struck [] i t h at own other = absurd cc
  struck (u ∷ ts) zero t h at own other =
      let same : t ≡ u = cc in
      let mine = rw same at own in
      let rest = passed ts (Crashed u.station.id u.keep.lists how ∷ h) (λ j w b. other (suc j) w b (λ e. omega arith)) in
      rw same (record { known = rw (rest.known, mine); stretches = λ which. rw (rest.stretches which, mine) })
  struck (u ∷ ts) (suc i) t h at own other =
      let first = says-crashed slot h u.station.id (other 0 u refl (λ e. omega arith)) u.keep.lists how in
      let rest = struck ts i t (Crashed u.station.id u.keep.lists how ∷ h) at own (λ j w b ne. other (suc j) w b (λ e. ne (omega arith))) in
      record { known = rw (rest.known, first.known); stretches = rest.stretches }

-- THE ENTRIES

with_crashes_more : (how : Loss) (ts : List Target) (t : Target) (h : List Entry)
    → with_crashes how (ts ++ t ∷ []) h ≡ Crashed t.station.id t.keep.lists how ∷ with_crashes how ts h
with_crashes_more how [] t h = refl
with_crashes_more how (u ∷ ts) t h = with_crashes_more how ts t (Crashed u.station.id u.keep.lists how ∷ h)

-- the targets are those of the slots, with lists that may stand
pub record MayRestart (slots : List SlotSetup) (h : List Entry) (ts : List Target) : Type 0 where
  pub each : (i : ℕ) (slot : SlotSetup) (t : Target) → slice_get slots i ≡ Some slot → slice_get ts i ≡ Some t
      → (t.station ≡ slot.station) × MayStand (state_after slot h) t.keep.lists

module _ (s : Setup) (how : Loss) where
  -- the first slot, and those behind it
  module _ {slot : SlotSetup} {slots : List SlotSetup} {t : Target} {ts : List Target} {h : List Entry}
      (are : AreSlots s (slot ∷ slots)) (may : MayRestart (slot ∷ slots) h (t ∷ ts)) where
    tail_slots : AreSlots s slots
    tail_slots = record {
      there = λ i. are.there (suc i);
      apart = λ i j a b p q ne. are.apart (suc i) (suc j) a b p q (λ e. ne (omega arith));
    }

    may_later : MayRestart slots (Crashed slot.station.id t.keep.lists how ∷ h) ts
    may_later = record {
      each = λ i x u a b.
          let m = may.each (suc i) x u a b in
          let same = says-crashed x h slot.station.id (are.apart (suc i) 0 x slot a refl (λ e. omega arith)) t.keep.lists how in
          (m.0, rw (same.known, state_after) m.1);
    }

    may_come : MayCome s h (Crashed slot.station.id t.keep.lists how)
    may_come = rw (are.there 0 slot refl) (may.each 0 slot t refl refl).1

  -- the entries of so many slots, or of all
  crash_entries : (slots : List SlotSetup) (ts : List Target) (h : List Entry) → AreSlots s slots → length ts ≤ length slots → MayRestart slots h ts
      → IsLawful s h
      → CrashSome how slots h (with_crashes how ts h) × IsLawful s (with_crashes how ts h)
      × (length ts ≡ length slots → CrashEach how slots h (with_crashes how ts h))
  crash_entries [] [] h are fits may lawful = (refl, lawful, λ e. refl)
  crash_entries [] (t ∷ ts) h are fits may lawful = absurd (omega arith)
  crash_entries (slot ∷ slots) [] h are fits may lawful = (inl refl, lawful, λ e. absurd (omega arith))
  crash_entries (slot ∷ slots) (t ∷ ts) h are fits may lawful =
      let rest = crash_entries slots ts _ (tail_slots are may) (omega arith) (may_later are may) (may_come are may, lawful) in
      rw (may.each 0 slot t refl refl).0 (inr (t.keep.lists, rest.0), rest.1, λ e. (t.keep.lists, rest.2 (omega arith)))

-- THE SHELF

module _ {slots : List SlotSetup} {h : List Entry} {how : Loss} {x : SimShelf} {ys : List Target}
    (k : Stands slots h x) (r : RestartEach how x.shelf.targets ys) where
  may_restart : MayRestart slots h ys
  may_restart = record {
    each = λ i slot t a b.
        let u = was r i t b in
        let standing = k.each i slot u.0 a u.1 in
        (u.2.station ∙ standing.station, restarted_lists u.2 (state_after slot h) standing.holds.crash);
  }

  -- another target has another name
  other_name : AreApart slots → (i j : ℕ) (slot : SlotSetup) (t : Target) → slice_get slots i ≡ Some slot → slice_get ys j ≡ Some t → j ≢ i
      → is_slot slot t.station.id ≡ false
  other_name apart i j slot t a b ne =
      let o = there slots j (omega (arith, slice_get_within ys j t b, r.count, k.count)) in
      rw (may_restart.each j o.0 t o.1 b).0 (apart i j slot o.0 a o.1 (λ e. ne (sym e)))

  module _ (apart : AreApart slots) (i : ℕ) (slot : SlotSetup) (t : Target) (a : slice_get slots i ≡ Some slot) (b : slice_get ys i ≡ Some t) where
    crashed : CrashesTo slot t.keep.lists how h (with_crashes how ys h)
    crashed = struck slot how ys i t h b (rw (may_restart.each i slot t a b).0 (same_id-refl slot.station.id)) (λ j u. other_name apart i j slot u a)

    serving : (stops : Stops) → stops ≡ record { store = None; keep = None } → IsServing slot (with_crashes how ys h) t stops
    serving stops is =
        let u = was r i t b in
        let standing = k.each i slot u.0 a u.1 in
        let left = restarted u.2 slot.station.sectors slot (slot_after slot h) standing.under standing.holds in
        record {
          station = u.2.station ∙ standing.station;
          under = rw crashed.known left.0;
          holds = rw (crashed.known, state_after) left.1;
          store_due = rw (crashed.stretches Store) (store_unarmed u.2);
          keep_due = rw (crashed.stretches Keep, keep_unarmed u.2);
          store_stop = rw (is, crashed.stretches Store);
          keep_stop = rw (is, crashed.stretches Keep);
        }

-- A CRASH

-- one entry more was taken down
pub crash_noted : (how : Loss) (ts : List Target) (i : ℕ) (first old new : Recorded)
    → old ≡ record first { entries = with_crashes how (take i ts) first.entries }
    → IsSomeAnd (slice_get ts i) (λ t. new ≡ with_entry old (Crashed t.station.id t.keep.lists how))
    → new ≡ record first { entries = with_crashes how (take (i + 1) ts) first.entries }
crash_noted how ts i first old new so_far p = go (slice_get ts i) refl p
  where
    more : (t : Target) → slice_get ts i ≡ Some t → take (i + 1) ts ≡ take i ts ++ t ∷ []
    more t at = grind (arith, common_steps, gets)

    go : (o : Option Target) → slice_get ts i ≡ o → IsSomeAnd o (λ t. new ≡ with_entry old (Crashed t.station.id t.keep.lists how))
        → new ≡ record first { entries = with_crashes how (take (i + 1) ts) first.entries }
    go None at p = absurd p
    go (Some t) at p = rw (p, so_far, more t at, with_crashes_more how (take i ts) t first.entries)

module _ {s : Setup} {slots : List SlotSetup} {h : List Entry} {how : Loss} {x : SimShelf} {ys : List Target}
    (are : AreSlots s slots) (k : Stands slots h x) (lawful : IsLawful s h) (r : RestartEach how x.shelf.targets ys) where
  -- the disks of the shelf are then what the history says
  pub all_noted : (y : SimShelf) (n : ℕ) (m : List Entry) → y.shelf.targets ≡ ys → y.stops ≡ replicate n (record { store = None; keep = None })
      → length y.stops ≡ length ys → m ≡ with_crashes how ys h → CrashEach how slots h m × IsLawful s m × Serves slots m y
  all_noted y n m targets stops count is =
      let size : length ys ≡ length slots = r.count ∙ k.count in
      let came = crash_entries s how slots ys h are (omega arith) (may_restart k r) lawful in
      rw is (
        came.2 size,
        came.1,
        record {
          count = rw targets size;
          stops = count ∙ size;
          each = λ i slot t z a b c. serving k r are.apart i slot t a (rw targets at b) z (get_replicate n i _ z (rw stops at c));
        },
      )

  pub some_noted : (n : ℕ) (m : List Entry) → m ≡ with_crashes how (take n ys) h → CrashSome how slots h m × IsLawful s m
  some_noted n m is =
      let may = may_restart k r in
      let came = crash_entries s how slots (take n ys) h are (omega (arith, length-take n ys, r.count, k.count))
      (record { each = λ i slot t a b. may.each i slot t a (get_take n ys i t b) }) lawful in
      rw is (came.0, came.1)
