-- An act of one shelf.
use Rattle.std.proofs.Common.{ℕ, ◌≡◌, ◌≢◌, Bool, true, List, ◌∷◌, Option, Some, None, Result, Ok, Err, refl, ap, arith, inl, ◌∙◌, OnErr, OnOk}
use Rattle.std.specs.Prelude.{slice_get, slice_set}
use Rattle.std.proofs.lemmas.Option.{slice_get_within}
use Rattle.aoe_cache.specs.declared.any.AnyStore.{AnyStore}
use Rattle.aoe_disk.specs.Memory.{Memory}
use Rattle.aoe_disk.specs.declared.loss.Loss.{Loss}
use Rattle.aoe_history.specs.declared.entry.Entry.{Entry}
use Rattle.aoe_history.specs.declared.entry.Entry.TheVariants.{Armed}
use Rattle.aoe_history.specs.Frames.{arriving}
use Rattle.aoe_history.specs.Groups.{ArriveAtEach, ArriveAtSome}
use Rattle.aoe_history.specs.Groups.Act.{Hand}
use Rattle.aoe_history.specs.Groups.Station.{Shelf as ShelfStation}
use Rattle.aoe_history.specs.Lawful.{IsLawful}
use Rattle.aoe_history.specs.Run.{MeetsFull}
use Rattle.aoe_history.specs.Setup.{shelf_of, AreSlots, HostSetup, Setup, SlotSetup}
use Rattle.aoe_net.specs.declared.refusal.NetLimit.{NetLimit}
use Rattle.aoe_net.specs.declared.refusal.NetRefusal.{NetRefusal}
use Rattle.aoe_net.specs.declared.refusal.NetRefusal.TheVariants.{Full}
use Rattle.aoe_sim_hosts.specs.Host.{is_apart as is_apart_of_host}
use Rattle.aoe_sim_shelves.specs.Shelf.{is_apart as is_apart_of_slots, SimShelf, Serves}
use Rattle.aoe_script.specs.declared.event.Which.{Which}
use Rattle.aoe_target.specs.Mounted.{Mounted}
use Rattle.aoe_world.proofs.ActLemmas.{apart-slot, hosts-after, left-more, one-shelf, speaks-apart}
use Rattle.aoe_world.proofs.AddsLemmas.{adds-entry, arrive-adds, Adds, SpeaksOf}
use Rattle.aoe_world.specs.declared.sim.Sim.{Sim}
use Rattle.aoe_world.specs.Sim.{IsEntered, IsNetwork, IsReady, IsTurning}
use Rattle.aoe_initiator.proofs.ListLemmas.{get-there as there}

abbrev pub Target : Type 0
Target = Mounted (AnyStore Memory) Memory

-- what is said of a frame that comes to a shelf, for each history with which it agrees
abbrev pub OfArrival : ℕ → List ℕ → SimShelf → List Entry → (Setup → List SlotSetup → Type 0) → Type 0
OfArrival number f x h P =
    (z : Setup) (slots : List SlotSetup) → AreSlots z slots → Serves slots h x → IsLawful z h → arriving z.life h number ≡ Some f → P z slots

-- a target is that of its slot
pub slot-at : {slots : List SlotSetup} {h : List Entry} {x : SimShelf} → Serves slots h x → (j : ℕ) (t : Target)
    → slice_get x.shelf.targets j ≡ Some t → (slot : SlotSetup) × (slice_get slots j ≡ Some slot) × (t.station ≡ slot.station)
slot-at {slots} {x = x} serves j t e =
    let w = slice_get_within x.shelf.targets j t e in
    let slot = there slots j (omega (arith, w, serves.count)) in
    let stops = there x.stops j (omega (arith, w, serves.count, serves.stops)) in
    (slot.0, slot.1, (serves.each j slot.0 t stops.0 slot.1 e stops.1).station)

-- a shelf before and after something came of it, and nothing else moved
pub record ShelfMoves (s : Setup) (majors : List ℕ) (i major : ℕ) (x y : SimShelf) (old new : Sim) : Type 0 where
  pub net : IsNetwork s majors
  pub ready : IsReady s majors old
  pub number : slice_get majors i ≡ Some major
  pub there : slice_get old.shelves.items i ≡ Some x
  pub life : new.run.life ≡ old.run.life
  pub hosts : new.hosts ≡ old.hosts
  pub shelves : new.shelves.items ≡ slice_set old.shelves.items i y
  pub same : y.shelf.major ≡ x.shelf.major

module _ {s : Setup} {majors : List ℕ} {i major : ℕ} {x y : SimShelf} {old new : Sim} (m : ShelfMoves s majors i major x y old new) where
  turning-shelf : IsLawful s new.run.entries → Serves (shelf_of s major) new.run.entries y
      → ((host : HostSetup) → Adds (is_apart_of_host host) old.run.entries new.run.entries)
      → ((other : ℕ) → other ≢ major → Adds (is_apart_of_slots (shelf_of s other)) old.run.entries new.run.entries) → IsTurning s majors None 0 new
  turning-shelf lawful serves of-hosts of-slots = record {
    life = m.life ∙ m.ready.life;
    lawful = lawful;
    hosts_are = rw m.hosts (hosts-after of-hosts m.ready.hosts_are);
    shelves_are = rw m.shelves (one-shelf i major x y old.shelves.items m.net m.number m.there of-slots serves m.same m.ready.shelves_are);
  }

  -- entries that speak of its slots
  pub has-come : IsLawful s new.run.entries → Serves (shelf_of s major) new.run.entries y
      → ((p : Entry → Bool) → SpeaksOf p (shelf_of s major) → Adds p old.run.entries new.run.entries) → IsTurning s majors None 0 new
  has-come lawful serves adds =
      turning-shelf lawful serves (λ host. adds (is_apart_of_host host) (record { arrived = λ j slot n fate e. refl; crashed = λ j slot lists how e. refl }))
      (λ other apart. adds (is_apart_of_slots (shelf_of s other)) (speaks-apart s other major apart))

  -- a disk of it was armed
  pub has-armed : IsLawful s new.run.entries → Serves (shelf_of s major) new.run.entries y → Serves (shelf_of s major) old.run.entries x
      → (slot : ℕ) (t : Target) (which : Which) (n : ℕ) (mode : Option Loss) → slice_get x.shelf.targets slot ≡ Some t
      → new.run.entries ≡ Armed t.station.id which n mode ∷ old.run.entries → IsTurning s majors None 0 new
  has-armed lawful serves before slot t which n mode et is =
      turning-shelf lawful serves (λ host. adds-entry refl is) (λ other apart. adds-entry (away other apart) is)
    where
      away : (other : ℕ) → other ≢ major → is_apart_of_slots (shelf_of s other) (Armed t.station.id which n mode) ≡ true
      away other apart = let at = slot-at before slot t et in rw at.2 (apart-slot s other major slot at.0 apart at.1)

  -- a frame came to it, or as much of that came as could
  pub arrived-by : (r : Result (Unit {0}) NetRefusal) (number : ℕ) (f : List ℕ) → arriving s.life old.run.entries number ≡ Some f
      → OnOk r (OfArrival number f x old.run.entries (λ z slots.
      ArriveAtEach number f slots slots old.run.entries new.run.entries × IsLawful z new.run.entries × Serves slots new.run.entries y))
      → OnErr r (OfArrival number f x old.run.entries
      (λ z slots. ArriveAtSome number f slots slots old.run.entries new.run.entries × IsLawful z new.run.entries))
      → ((limit : NetLimit) → r ≡ Err (Full limit)
      → OfArrival number f x old.run.entries (λ z slots. MeetsFull z (ArriveAtSome number f slots slots old.run.entries) limit new.run.entries))
      → IsEntered r s majors (Hand number (ShelfStation major)) old new
  arrived-by (Ok u) number f fresh ok err full =
      let t = ok s (shelf_of s major) (m.net.slots i major m.number) (m.ready.shelves_are.each i major x m.number m.there) m.ready.lawful fresh in
      (None, rw fresh (refl, t.0), has-come t.1 t.2 (λ p speaks. arrive-adds number f (shelf_of s major) speaks speaks t.0))
  arrived-by (Err refusal) number f fresh ok err full =
      let slots = shelf_of s major in
      let serves = m.ready.shelves_are.each i major x m.number m.there in
      let t = err s slots (m.net.slots i major m.number) serves m.ready.lawful fresh in
      left-more {part = ArriveAtSome number f slots slots old.run.entries} (λ h part. inl (rw fresh part))
      (record { begun = t.0; lawful = t.1; full = λ limit e. full limit (ap Err e) s slots (m.net.slots i major m.number) serves m.ready.lawful fresh })
