-- A disk of a slot is armed: its stretch begins.
use Rattle.std.proofs.Common.{◌≡◌, ◌<◌, ℕ, true, false, List, ◌∷◌, length, get_or, Option, Some, is_some, refl, ◌∙◌, arith}
use Rattle.std.proofs.lemmas.List.{length-set}
use Rattle.std.proofs.lemmas.Option.{slice_get-get_or, slice_get_within}
use Rattle.std.specs.List.{refill}
use Rattle.std.specs.Prelude.{slice_get, slice_set, IfSome, IsSomeAnd}
use Rattle.arrayvec.proofs.ArrayVecLemmas.{items-with_items}
use Rattle.aoe_cache.specs.Any.{any_state, any_under}
use Rattle.aoe_cache.specs.declared.any.AnyStore.{AnyStore}
use Rattle.aoe_store.specs.Under.{ArmsUnder}
use Rattle.aoe_base.specs.declared.address.TargetId.{TargetId}
use Rattle.aoe_disk.specs.Arming.{Arms, ArmsTo}
use Rattle.aoe_disk.specs.Memory.{state_of, Memory}
use Rattle.aoe_disk.specs.State.{BothTell, Contents, Schedule}
use Rattle.aoe_disk.specs.declared.armed.Arm.{Arm}
use Rattle.aoe_disk.specs.declared.loss.Loss.{Loss}
use Rattle.aoe_keep.specs.Found.{Finds}
use Rattle.aoe_shelf.specs.Slot.{ChangesAt}
use Rattle.aoe_target.specs.Device.{MayStand, State}
use Rattle.aoe_history.specs.declared.entry.Entry.{Entry}
use Rattle.aoe_history.specs.declared.entry.Entry.TheVariants.{Armed}
use Rattle.aoe_history.specs.Setup.{is_slot, AreApart, SlotSetup}
use Rattle.aoe_history.specs.ShelfLaw.{Stretch}
use Rattle.aoe_history.specs.Slots.{slot_after, state_after}
use Rattle.aoe_script.specs.declared.event.Which.{Which}
use Rattle.aoe_script.specs.declared.event.Which.TheVariants.{Store, Keep}
use Rattle.aoe_sim_shelves.specs.declared.shelf.Stops.{Stops}
use Rattle.aoe_sim_shelves.specs.Arming.{arm_of, with_stop, ArmsDisk}
use Rattle.aoe_sim_shelves.specs.Shelf.{IsDue, IsSimShelf, IsServing, IsStoreDue, Serves}
use Rattle.aoe_sim_shelves.proofs.Apart.{says-armed, serves-on}
use Rattle.aoe_sim_shelves.proofs.ShelfLemmas.{shelf-kept, IsSameTarget}
use Rattle.aoe_sim_shelves.proofs.UnderLemmas.{armed-under, settled-self, under-wrote}
use Rattle.aoe_sim_shelves.proofs.Words.{Shelf, Target}
use Rattle.aoe_initiator.proofs.ListLemmas.{get-there as there}
use Rattle.aoe_initiator.proofs.NameLemmas.{same_id-refl}

-- the stretch of a disk that was just armed
abbrev pub begun : ℕ → Option Loss → Stretch
begun k mode = record { k = k; mode = mode; frames = 0; struck = false }

due-begun : (k : ℕ) (mode : Option Loss) {old new : Schedule} → Arms (arm_of k mode) old new → is_some new.due ≡ true → (which : Which) → 0 < k
    → IsDue which (Some (begun k mode)) new
due-begun k mode a told which first = grind (arith, a.due, a.armed)

store-begun : (k : ℕ) (mode : Option Loss) (s t : AnyStore Memory) → 0 < k → ArmsTo (arm_of k mode) (any_state state_of s) (any_state state_of t)
    → BothTell (ArmsUnder (arm_of k mode)) (any_under state_of s) (any_under state_of t) → IsStoreDue (Some (begun k mode)) t
store-begun k mode s t first a u = grind (arith, a.schedule)

still-finds : (o p : Option Contents) (k : State) → p ≡ o → IfSome o (Finds (MayStand k)) → IfSome p (Finds (MayStand k))
still-finds o p k e finds = rw e finds

-- the disk of a slot's store is armed, or that of its keep
armed : (which : Which) (slot : SlotSetup) (h : List Entry) (k : ℕ) (mode : Option Loss) {t u : Target} {stops : Stops} → 0 < k → IsServing slot h t stops
    → ArmsDisk which (arm_of k mode) t u → IsServing slot (Armed slot.station.id which k mode ∷ h) u (with_stop which mode stops)
armed Store slot h k mode {t} {u} {stops} first s a =
    let mine : is_slot slot slot.station.id ≡ true = same_id-refl slot.station.id in
    rw a.0.rest (record {
      station = s.station;
      under = under-wrote slot.station.sectors slot.cache (slot_after slot h) (slot_after slot h) _ _ 0
          (record { written = omega arith; struck = refl; settled = settled-self (state_after slot h).sectors })
          (armed-under (arm_of k mode) _ _ a.1) s.under;
      holds = record { lists = s.holds.lists; crash = s.holds.crash; sectors = rw a.0.arms.contents s.holds.sectors };
      store_due = rw mine (store-begun k mode t.store u.store first a.0.arms a.1);
      keep_due = rw mine s.keep_due;
      store_stop = rw mine;
      keep_stop = rw mine s.keep_stop;
    })
armed Keep slot h k mode {t} {u} {stops} first s a =
    let mine : is_slot slot slot.station.id ≡ true = same_id-refl slot.station.id in
    rw a.rest (record {
      station = s.station;
      under = s.under;
      holds = record { lists = a.lists ∙ s.holds.lists; crash = still-finds _ _ (state_after slot h) a.arms.contents s.holds.crash; sectors = s.holds.sectors };
      store_due = rw mine s.store_due;
      keep_due = rw mine (due-begun k mode a.arms.schedule refl Keep first);
      store_stop = rw mine s.store_stop;
      keep_stop = rw mine;
    })

-- a target that is armed is the same one: its disks hold what they held
pub armed-same : (which : Which) (arm : Arm) {t u : Target} → ArmsDisk which arm t u → IsSameTarget t u
armed-same Store arm a = rw a.0.rest (record {
  station = refl;
  sectors = a.0.arms.sectors;
  room = refl;
  known = λ k h. (k, record { lists = h.lists; crash = h.crash; sectors = rw a.0.arms.contents h.sectors });
})
armed-same Keep arm a = rw a.rest (record {
  station = refl;
  sectors = refl;
  room = a.arms.sectors;
  known = λ k h. (k, record { lists = a.lists ∙ h.lists; crash = still-finds _ _ k a.arms.contents h.crash; sectors = h.sectors });
})

-- what the code knows of an arming of one slot: how the targets changed, and the stops
pub record IsArming (i : ℕ) (which : Which) (k : ℕ) (mode : Option Loss) (a b : Shelf) (items : List Stops) (old new : Stops) (dev : TargetId) : Type 0 where
  pub first : 0 < k
  pub change : ChangesAt i (ArmsDisk which (arm_of k mode)) a.targets b.targets
  pub rest : b ≡ record a { targets = b.targets }
  pub name : IsSomeAnd (slice_get a.targets i) (λ t. dev ≡ t.station.id)
  pub count : length items ≡ length a.targets
  pub is : new ≡ with_stop which mode (get_or items i old)

module _ {i : ℕ} {which : Which} {k : ℕ} {mode : Option Loss} {a b : Shelf} {items : List Stops} {old new : Stops} {dev : TargetId}
    (z : IsArming i which k mode a b items old new dev) where
  refilled : refill (length items) items (slice_set items i new) ≡ slice_set items i new
  refilled = items-with_items (record { items = items }) (slice_set items i new) (length-set items i new)

  pub arming-kept : {major : ℕ} → IsSimShelf major a items → IsSimShelf major b (refill (length items) items (slice_set items i new))
  arming-kept r = rw refilled
      (shelf-kept r.targets z.change z.rest (armed-same which (arm_of k mode) z.change.change) (slice_set items i new) r (length-set items i new))

  -- the disks of the shelf are then what the history says, of which the arming is the latest entry
  pub arming-serves : {slots : List SlotSetup} {h : List Entry} → AreApart slots → Serves slots h (record { shelf = a; stops = items })
      → Serves slots (Armed dev which k mode ∷ h) (record { shelf = b; stops = refill (length items) items (slice_set items i new) })
  arming-serves {slots} {h} apart s =
      let within : i < length items = omega (arith, slice_get_within a.targets i z.change.before z.change.found, z.count) in
      let stops : ChangesAt i (λ p q. q ≡ with_stop which mode p) items (slice_set items i new) =
      record { before = get_or items i old; after = new; found = slice_get-get_or items i old within; others = refl; change = z.is } in
      let slot = there slots i (omega (arith, slice_get_within a.targets i z.change.before z.change.found, s.count)) in
      let served = s.each i slot.0 z.change.before (get_or items i old) slot.1 z.change.found stops.found in
      let name : dev ≡ slot.0.station.id = rw (z.change.found, served.station) at z.name in
      rw (refilled, name) (serves-on apart slot.1 (λ other ne. says-armed other h slot.0.station.id ne which k mode) z.change stops s
      (rw z.is (armed which slot.0 h k mode z.first served z.change.change)))
