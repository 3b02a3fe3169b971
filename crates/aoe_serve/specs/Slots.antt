-- The slots of a shelf, and what a frame does to each.
use Rattle.std.specs.Prelude.{ℕ, ◌≡◌, ◌≤◌, Bool, List, map, length, slice_get, Some, true, false}
use Rattle.aoe_base.specs.Faults.{Rose}
use Rattle.aoe_base.specs.Sizes.{longest_frame}
use Rattle.aoe_disk.specs.State.{DiskState}
use Rattle.aoe_target.specs.Device.{Device, State, Holds}
use Rattle.aoe_target.specs.History.{Met, AllAllowed, IsCounted, count_failed, is_cut, keep_failed, left_by, store_failed}
use Rattle.aoe_target.specs.Lasting.{IsFirmAfter}
use Rattle.aoe_target.specs.Law.{Fate, IsStep, cut, ignored, replied, silent}
use Rattle.aoe_target.specs.Mounted.{Mounted, device_of}
use Rattle.aoe_target.specs.declared.station.Station.{Station}

-- what never changes of a target, its name and whether its writes last, and its device
pub record Slot : Type 0 where
  pub station : Station
  pub lasts : Bool
  pub device : Device

-- the slots of a shelf with these targets
abbrev pub slot_of : {S D : Type 0} → Bool → (S → DiskState) → (D → DiskState) → Mounted S D → Slot
slot_of lasts store keep target = record { station = target.station; lasts = lasts; device = device_of store keep target }

abbrev pub slots_of : {S D : Type 0} → Bool → (S → DiskState) → (D → DiskState) → List (Mounted S D) → List Slot
slots_of lasts store keep targets = map (slot_of lasts store keep) targets

-- R of each slot before and after
pub record EachSlot (R : ℕ → Slot → Slot → Type 0) (old new : List Slot) : Type 0 where
  pub count : length new ≡ length old
  pub each : (i : ℕ) (a b : Slot) → slice_get old i ≡ Some a → slice_get new i ≡ Some b → R i a b

-- a reply is no longer than a frame
abbrev pub IsFrameLong : Fate → Type 0
IsFrameLong ignored = Unit {0}
IsFrameLong silent = Unit {0}
IsFrameLong cut = Unit {0}
IsFrameLong (replied e reply) = length reply ≤ longest_frame

-- a frame came to a slot: what became of it is a step of the shelf law over all that is known of the device, the power held, a reply is
-- no longer than a frame, and a fault is one that its disk counted. Where writes last, after one that was done a crash changes none of its sectors
pub record Meets (a b : Slot) (frame : List ℕ) (fate : Fate) : Type 0 where
  pub station : b.station ≡ a.station
  pub step : (k : State) → Holds a.device k → IsStep a.station k frame fate b.device
  pub lasts : b.lasts ≡ a.lasts
  pub firm : a.lasts ≡ true → IsFirmAfter fate b.device.store.contents
  pub uncut : is_cut fate ≡ false
  pub fits : IsFrameLong fate
  pub store_later : a.device.store.faults ≤ b.device.store.faults
  pub store_fault : store_failed fate ≡ true → Rose a.device.store.faults b.device.store.faults
  pub keep_later : a.device.keep.faults ≤ b.device.keep.faults
  pub keep_fault : keep_failed fate ≡ true → Rose a.device.keep.faults b.device.keep.faults

-- frames came to a slot: what became of them is lawful for all that was known of the device, which is as they leave it, and each fault
-- is one that its disk counted
pub record IsServed (a b : Slot) (h : List Met) : Type 0 where
  pub station : b.station ≡ a.station
  pub lasts : b.lasts ≡ a.lasts
  pub lawful : (k : State) → Holds a.device k → AllAllowed a.station k h
  pub holds : (k : State) → Holds a.device k → Holds b.device (left_by a.station k h)
  pub store_faults : IsCounted (count_failed store_failed h) a.device.store b.device.store
  pub keep_faults : IsCounted (count_failed keep_failed h) a.device.keep b.device.keep
