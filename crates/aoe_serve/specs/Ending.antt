-- What a run leaves of a slot, after the last sync of its store.
use Rattle.std.specs.Prelude.{ℕ, ◌≡◌, true, false, List, IfSome, Result, Ok, Err}
use Rattle.std.specs.Option.{option_map}
use Rattle.aoe_base.specs.declared.failure.Failed.{Failed}
use Rattle.aoe_cache.specs.Free.{KeepsSettled}
use Rattle.aoe_disk.specs.State.{BothTell, Contents, DiskState, CanLeave, sector}
use Rattle.aoe_keep.specs.Found.{Finds}
use Rattle.aoe_serve.specs.Lasting.{lasting_by}
use Rattle.aoe_serve.specs.Slots.{Slot}
use Rattle.aoe_target.specs.Device.{Device, State, Holds, MayStand, state_of}
use Rattle.aoe_target.specs.History.{Met, left_by}
use Rattle.aoe_target.specs.Sectors.{Sectors, settles}

-- what the last sync leaves of what is known
abbrev pub after_last : Result (Unit {0}) Failed → State → State
after_last (Ok done) k = record k { sectors = option_map settles k.sectors }
after_last (Err failed) k = k

-- every crash leaves each unmarked sector as it is known
abbrev pub LeavesKnown : Sectors → Contents → Type 0
LeavesKnown k c = (image : List ℕ) → CanLeave c image → (s : ℕ) → k.marks s ≡ false → IfSome (k.known s) (λ v. sector image s ≡ v)

-- what a loss of power leaves of the disks of a device: each unmarked sector as it is known, and lists that may stand
pub record Outlives (d : Device) (k : State) : Type 0 where
  pub file : IfSome d.store.contents (λ c. IfSome k.sectors (λ sectors. LeavesKnown sectors c))
  pub keep : IfSome d.keep.contents (Finds (MayStand k))

-- these frames came to a slot, and then its store was synced: it holds what is known after them, and outlives a loss of power. So does it
-- over a disk that has what isn't loose in the store; and where writes last, what is known then
pub record EndsAfter (h : List Met) (synced : Result (Unit {0}) Failed) (a b : Slot) : Type 0 where
  pub holds : (k : State) → Holds a.device k → Holds b.device (after_last synced (left_by a.station k h))
  pub outlives : Outlives b.device (after_last synced (left_by a.station (state_of a.device) h))
  pub disk_outlives : (disk : DiskState) → BothTell KeepsSettled b.device.store.contents disk.contents
      → Outlives (record b.device { store = disk }) (after_last synced (left_by a.station (state_of a.device) h))
  pub lasting : a.lasts ≡ true → (disk : DiskState) → BothTell KeepsSettled b.device.store.contents disk.contents
      → Outlives (record b.device { store = disk }) (after_last synced (lasting_by a.station (state_of a.device) h))
