-- The slot of a device: its shelf by the number, and in it the target by the minor.
use Rattle.std.proofs.Common.{ℕ, ◌≡◌, ◌≢◌, ◌∙◌, Bool, List, Some, None, sym, ap, arith}
use Rattle.std.specs.Prelude.{nat_eq, position, slice_get, Contains, IfSome}
use Rattle.std.proofs.lemmas.Bool.{eq-eqb, eqb-true}
use Rattle.std.proofs.lemmas.Option.{slice_get_within}
use Rattle.aoe_base.specs.declared.address.TargetId.{TargetId}
use Rattle.aoe_base.proofs.CommonLemmas.{not-both}
use Rattle.aoe_history.specs.declared.entry.Entry.{Entry}
use Rattle.aoe_history.specs.Setup.{shelf_of, Setup, SlotSetup}
use Rattle.aoe_sim_setup.proofs.ListLemmas.{place-of}
use Rattle.aoe_script.specs.declared.setup.Setup.{Setup as Line}
use Rattle.aoe_sim_shelves.specs.Shelf.{SimShelf, Serves}
use Rattle.aoe_sim_setup.specs.Stations.{IsThere}
use Rattle.aoe_world.specs.declared.sim.Sim.{Sim}
use Rattle.aoe_world.specs.Acts.{id_at, CanArm}
use Rattle.aoe_world.specs.Sim.{IsReady}
use Rattle.aoe_world.proofs.ListLemmas.{filter-at}
use Rattle.aoe_world.proofs.ShelfActLemmas.{slot-at, Target}
use Rattle.aoe_initiator.proofs.ListLemmas.{get-there as there, not-placed, placed, Contains-get}

-- a shelf has the number of the device
abbrev pub has_number : TargetId → SimShelf → Bool
has_number dev x = nat_eq x.shelf.major dev.major

-- none of its targets has the minor of the device
abbrev pub HasNone : TargetId → SimShelf → Type 0
HasNone dev x = (j : ℕ) → IfSome (slice_get x.shelf.targets j) (λ t. t.station.id.minor ≢ dev.minor)

-- one of the targets that serve the device's slots is the device
pub one-is : {lines : List Line} {s : Setup} {dev : TargetId} {h : List Entry} {x : SimShelf} → IsThere lines s dev → Serves (shelf_of s dev.major) h x
    → HasNone dev x → ⊥
one-is {s = s} {dev = dev} {x = x} is serves none =
    let p = place-of (shelf_of s dev.major) is.slot is.inside in
    let w = slice_get_within (shelf_of s dev.major) p.at is.slot p.there in
    let t = there x.shelf.targets p.at (omega (arith, w, serves.count)) in
    let stops = there x.stops p.at (omega (arith, w, serves.stops)) in
    let differ : t.0.station.id.minor ≢ dev.minor = rw t.1 at (none p.at) in
    differ (rw ((serves.each p.at is.slot t.0 stops.0 p.there t.1 stops.1).station, is.called))

-- the target with its minor is the device
pub is-device : {h : List Entry} {x : SimShelf} (s : Setup) (dev : TargetId) (j : ℕ) (t : Target)
    → Serves (shelf_of s dev.major) h x → slice_get x.shelf.targets j ≡ Some t → t.station.id.minor ≡ dev.minor → t.station.id ≡ dev
is-device s dev j t serves et minor =
    let slot = slot-at serves j t et in
    let number = eqb-true slot.0.station.id.major dev.major (filter-at (λ (y : SlotSetup). nat_eq y.station.id.major dev.major) s.slots j slot.0 slot.1) in
    let major : t.station.id.major ≡ dev.major = ap (λ st. st.id.major) slot.2 ∙ number in
    λ i. record { major = major i; minor = minor i }

module _ {s : Setup} {majors : List ℕ} {sim : Sim} (ready : IsReady s majors sim) where
  -- the shelf that is found by the device's number serves its slots
  pub serves-slots : (dev : TargetId) (i : ℕ) (x : SimShelf) → position (has_number dev) sim.shelves.items ≡ Some i → slice_get sim.shelves.items i ≡ Some x
      → Serves (shelf_of s dev.major) sim.run.entries x
  serves-slots dev i x e ex =
      let m = there majors i (omega (arith, slice_get_within sim.shelves.items i x ex, ready.shelves_are.count)) in
      let is = eqb-true x.shelf.major dev.major (placed (has_number dev) sim.shelves.items i x e ex) in
      let number : m.0 ≡ dev.major = sym (ready.shelves_are.number i m.0 x m.1 ex) ∙ is in
      rw number at (ready.shelves_are.each i m.0 x m.1 ex)

  pub some-shelf : (dev : TargetId) → Contains majors dev.major → position (has_number dev) sim.shelves.items ≡ None → ⊥
  some-shelf dev inside e =
      let p = place-of majors dev.major inside in
      let x = there sim.shelves.items p.at (omega (arith, slice_get_within majors p.at dev.major p.there, ready.shelves_are.count)) in
      let number = ready.shelves_are.number p.at dev.major x.0 p.there x.1 in
      not-both (has_number dev x.0) (eq-eqb x.0.shelf.major dev.major number)
      (not-placed (has_number dev) sim.shelves.items x.0 e (Contains-get sim.shelves.items p.at x.0 x.1))

  -- the target at a place has the name of its slot
  pub id-at : (i j : ℕ) (x : SimShelf) (t : Target) → slice_get sim.shelves.items i ≡ Some x → slice_get x.shelf.targets j ≡ Some t
      → id_at s majors i j ≡ t.station.id
  id-at i j x t ex et =
      let m = there majors i (omega (arith, slice_get_within sim.shelves.items i x ex, ready.shelves_are.count)) in
      let slot = slot-at (ready.shelves_are.each i m.0 x m.1 ex) j t et in
      rw (m.1, slot.1) (ap (λ st. st.id) (sym slot.2))

  -- what is said by the name of the target at a place is said by that of its slot
  pub arm-named : (P : TargetId → Type 0) (i j k : ℕ) → CanArm sim i j k
      → IfSome (slice_get sim.shelves.items i) (λ x. IfSome (slice_get x.shelf.targets j) (λ t. P t.station.id)) → P (id_at s majors i j)
  arm-named P i j k can said =
      let x = there sim.shelves.items i can.there in
      let t = there x.0.shelf.targets j (rw x.1 at can.inside) in
      rw (id-at i j x.0 t.0 x.1 t.1) (rw t.1 at (rw x.1 at said))
