-- A shelf in a run: what its disks hold, and how they are armed, is what the history says of them.
use Rattle.std.specs.Prelude.{ℕ, ◌≡◌, ◌≢◌, ◌+◌, ◌-◌, ◌*◌, ◌<◌, ◌≤◌, ◌⊎◌, Bool, true, false, not, List, length, slice_get, Option, Some, None, is_some, IfNone, IfSome}
use Rattle.std.specs.Bool.{OnTrue}
use Rattle.std.specs.List.{list_any}
use Rattle.std.specs.Option.{option_and_then, option_map}
use Rattle.aoe_base.specs.declared.address.Mac.{Mac}
use Rattle.aoe_cache.specs.Any.{any_state, any_under}
use Rattle.aoe_cache.specs.declared.any.AnyStore.{AnyStore}
use Rattle.aoe_cache.specs.declared.any.AnyStore.TheVariants.{Direct, Cached}
use Rattle.aoe_disk.specs.Memory.{state_of, Memory}
use Rattle.aoe_disk.specs.State.{sector, BothTell, Schedule}
use Rattle.aoe_disk.specs.declared.loss.Loss.{Loss}
use Rattle.aoe_keep.specs.Found.{Finds}
use Rattle.aoe_shelf.specs.Shelf.{ShelfTable}
use Rattle.aoe_store.specs.Under.{bytes_under, Under}
use Rattle.aoe_target.specs.Device.{Device, Holds, MayStand, State}
use Rattle.aoe_target.specs.Mounted.{device_of, station_of, Mounted}
use Rattle.aoe_target.specs.Sectors.{sectors_of, Sectors}
use Rattle.aoe_history.specs.declared.entry.Entry.{Entry}
use Rattle.aoe_history.specs.declared.entry.Entry.TheVariants.{Arrived, Armed, Crashed}
use Rattle.aoe_history.specs.Setup.{is_slot, SlotSetup}
use Rattle.aoe_history.specs.ShelfLaw.{stretch, struck_frame, Stretch}
use Rattle.aoe_history.specs.Slots.{is_cached_whole, slot_after, state_after, Slot, Unsettled}
use Rattle.aoe_script.specs.declared.event.Which.{Which}
use Rattle.aoe_script.specs.declared.event.Which.TheVariants.{Store, Keep}
use Rattle.aoe_sim_shelves.specs.declared.shelf.Stops.{Stops}

-- a shelf over disks in memory, and for each slot what a stop leaves that one of its disks is armed with
pub record SimShelf : Type 0 where
  pub shelf : ShelfTable (AnyStore Memory) Memory
  pub stops : List Stops

-- the target is one of the shelf with this number, behind these ports. Its keep has room for lists, and something is known of
-- what a crash leaves of them
pub record IsTargetOf (major : ℕ) (ports : List Mac) (mtu : ℕ) (t : Mounted (AnyStore Memory) Memory) : Type 0 where
  pub minor : t.station.id.minor < 255
  pub station : t.station ≡ station_of (record { major = major; minor = t.station.id.minor }) ports mtu (any_state state_of t.store).sectors
  pub room : 16 ≤ (state_of t.keep.disk).sectors
  pub known : State
  pub holds : Holds (device_of (any_state state_of) state_of t) known

-- the targets of a shelf: each has a minor of its own
pub record AreTargets (shelf : ShelfTable (AnyStore Memory) Memory) : Type 0 where
  pub each : (i : ℕ) (t : Mounted (AnyStore Memory) Memory) → slice_get shelf.targets i ≡ Some t → IsTargetOf shelf.major shelf.ports shelf.mtu t
  pub apart : (i j : ℕ) (a b : Mounted (AnyStore Memory) Memory) → slice_get shelf.targets i ≡ Some a → slice_get shelf.targets j ≡ Some b → i ≢ j
      → a.station.id.minor ≢ b.station.id.minor

-- what holds of the fields of a shelf in a run, with a stop for each target
pub record IsSimShelf (major : ℕ) (shelf : ShelfTable (AnyStore Memory) Memory) (stops : List Stops) : Type 0 where
  pub number : shelf.major ≡ major
  pub count : length stops ≡ length shelf.targets
  pub targets : AreTargets shelf

-- how many calls of a disk one frame comes to: a change of the lists makes six of the keep, a command on sectors one of the store
abbrev pub calls_per : Which → ℕ
calls_per Keep = 6
calls_per Store = 1

-- the call that the disk is armed for is still to come
pub record IsPending (which : Which) (x : Stretch) (d : Schedule) : Type 0 where
  pub before : calls_per which * x.frames < x.k
  pub due : d.due ≡ Some (Some (x.k - calls_per which * x.frames))

-- it was made
pub record IsSpent (which : Which) (x : Stretch) (d : Schedule) : Type 0 where
  pub after : struck_frame which x.k ≤ x.frames
  pub due : d.due ≡ Some None

-- how a disk is armed, by its stretch: a disk that isn't armed for a stop fails one call
abbrev pub IsDue : Which → Option Stretch → Schedule → Type 0
IsDue which None d = d.due ≡ Some None
IsDue which (Some x) d = IfNone x.mode (is_some d.armed ≡ true) × (IsPending which x d ⊎ IsSpent which x d)

-- what a stop leaves that a disk is armed with
abbrev pub stop_in : Option Stretch → Option Loss
stop_in x = option_and_then (λ (s : Stretch). s.mode) x

-- both say the same of each of the first n sectors. A history says something of sectors behind the last one too, which no frame
-- reaches
pub record SameWithin (n : ℕ) (a b : Sectors) : Type 0 where
  pub known : (s : ℕ) → s < n → a.known s ≡ b.known s
  pub marks : (s : ℕ) → s < n → a.marks s ≡ b.marks s
  pub settled : (s : ℕ) → s < n → a.settled s ≡ b.settled s
  pub exact : a.exact ≡ b.exact

-- a has each value that b knows of the first n sectors, and each of its marks is one of b; and they say the same where b knows what
-- failed calls leave
pub record AgreesWithin (n : ℕ) (a b : Sectors) : Type 0 where
  pub known : (s : ℕ) → s < n → IfSome (b.known s) (λ v. a.known s ≡ Some v)
  pub marks : (s : ℕ) → s < n → b.marks s ≡ false → a.marks s ≡ false
  pub same : b.exact ≡ true → SameWithin n a b
  pub exact : a.exact ≡ b.exact

-- what is known of a device of n sectors is so
pub record HoldsWithin (n : ℕ) (d : Device) (k : State) : Type 0 where
  pub lists : d.lists ≡ k.lists
  pub crash : IfSome d.keep.contents (Finds (MayStand k))
  pub sectors : BothTell (AgreesWithin n) (option_map sectors_of d.store.contents) k.sectors

-- STORES WITH A CACHE

-- the call that the disk is armed for isn't tied to a frame: one call at most fails, and the power is lost in it where that is armed
pub record IsOnceDue (x : Stretch) (d : Schedule) : Type 0 where
  pub told : is_some d.due ≡ true
  pub number : IfNone x.mode (is_some d.armed ≡ true)
  pub once : x.struck ≡ true → (x.mode ≡ None) × (d.due ≡ Some None)

abbrev pub IsOnce : Option Stretch → Schedule → Type 0
IsOnce None d = d.due ≡ Some None
IsOnce (Some x) d = IsOnceDue x d

-- how the disk of a store is armed
abbrev pub IsStoreDue : Option Stretch → AnyStore Memory → Type 0
IsStoreDue x (Direct m) = IfSome (state_of m).schedule (IsDue Store x)
IsStoreDue x (Cached c) = IfSome (state_of c.disk).schedule (IsOnce x)

-- the disk has in each of the first n sectors what is settled there, and what was written since then has its room in the cache
pub record IsBelow (n room : ℕ) (u : Unsettled) (k : Sectors) (d : Under) : Type 0 where
  pub left : ℕ
  pub free : d.free ≡ Some left
  pub enough : room ≤ left + u.written
  pub settled : (s : ℕ) → s < n → IfSome (k.settled s) (λ v. option_map (λ bytes. sector bytes s) (bytes_under d) ≡ Some v)

-- a store has a cache of so many sectors, and its disk is as it was settled while a crash leaves that
abbrev pub HasCache : ℕ → Option ℕ → Slot → Option Under → Type 0
HasCache n None x None = Unit {0}
HasCache n None x (Some d) = ⊥
HasCache n (Some room) x None = ⊥
HasCache n (Some room) x (Some d) =
    (d.room ≡ room) × OnTrue (is_cached_whole room x.unsettled) (IfSome x.state.sectors (λ k. IsBelow n room x.unsettled k d))

-- A SHELF AND A HISTORY

-- a slot's disks are what the history says of them
pub record IsServing (slot : SlotSetup) (h : List Entry) (t : Mounted (AnyStore Memory) Memory) (stops : Stops) : Type 0 where
  pub station : t.station ≡ slot.station
  pub under : HasCache slot.station.sectors slot.cache (slot_after slot h) (any_under state_of t.store)
  pub holds : HoldsWithin slot.station.sectors (device_of (any_state state_of) state_of t) (state_after slot h)
  pub store_due : IsStoreDue (stretch Store slot h) t.store
  pub keep_due : IfSome (state_of t.keep.disk).schedule (IsDue Keep (stretch Keep slot h))
  pub store_stop : stops.store ≡ stop_in (stretch Store slot h)
  pub keep_stop : stops.keep ≡ stop_in (stretch Keep slot h)

-- of a slot that a disk failed in a stop this much is left, until the shelf crashes
pub record IsStanding (slot : SlotSetup) (h : List Entry) (t : Mounted (AnyStore Memory) Memory) : Type 0 where
  pub station : t.station ≡ slot.station
  pub under : HasCache slot.station.sectors slot.cache (slot_after slot h) (any_under state_of t.store)
  pub holds : HoldsWithin slot.station.sectors (device_of (any_state state_of) state_of t) (state_after slot h)

pub record Stands (slots : List SlotSetup) (h : List Entry) (x : SimShelf) : Type 0 where
  pub count : length x.shelf.targets ≡ length slots
  pub stops : length x.stops ≡ length slots
  pub each : (i : ℕ) (slot : SlotSetup) (t : Mounted (AnyStore Memory) Memory) → slice_get slots i ≡ Some slot → slice_get x.shelf.targets i ≡ Some t
      → IsStanding slot h t

-- and those of each slot of a shelf
pub record Serves (slots : List SlotSetup) (h : List Entry) (x : SimShelf) : Type 0 where
  pub count : length x.shelf.targets ≡ length slots
  pub stops : length x.stops ≡ length slots
  pub each : (i : ℕ) (slot : SlotSetup) (t : Mounted (AnyStore Memory) Memory) (stops : Stops) → slice_get slots i ≡ Some slot
      → slice_get x.shelf.targets i ≡ Some t → slice_get x.stops i ≡ Some stops → IsServing slot h t stops

-- an entry that says nothing of these slots
abbrev pub is_apart : List SlotSetup → Entry → Bool
is_apart slots (Arrived dev frame fate) = not (list_any (λ slot. is_slot slot dev) slots)
is_apart slots (Armed dev which k mode) = not (list_any (λ slot. is_slot slot dev) slots)
is_apart slots (Crashed dev lists how) = not (list_any (λ slot. is_slot slot dev) slots)
is_apart slots entry = true
