-- A target, as contracts see it.
use Rattle.std.specs.Prelude.{ℕ, ◌-◌, ◌/◌, ◌^◌, ◌≡◌, ◌≤◌, List}
use Rattle.aoe_base.specs.declared.address.Mac.{Mac}
use Rattle.aoe_base.specs.declared.address.TargetId.{TargetId}
use Rattle.aoe_disk.specs.State.{DiskState}
use Rattle.aoe_keep.specs.Keep.{Kept}
use Rattle.aoe_target.specs.Device.{Device}
use Rattle.aoe_target.specs.declared.station.Station.{Station}

-- what never changes of it, the keep of its lists, and its store
pub record Mounted (S D : Type 0) : Type 0 where
  pub station : Station
  pub keep : Kept D
  pub store : S

-- the device that it is, by what its store and the disk of its keep tell
abbrev pub device_of : {S D : Type 0} → (S → DiskState) → (D → DiskState) → Mounted S D → Device
device_of store keep t = record { lists = t.keep.lists; keep = keep t.keep.disk; store = store t.store }

-- a target of this name, behind these ports, over so many sectors. A frame carries mtu bytes: 36 of header and registers at most,
-- and the sectors of one command
abbrev pub station_of : TargetId → List Mac → ℕ → ℕ → Station
station_of id ports mtu sectors = record { id = id; ports = record { items = ports }; max = (mtu - 36) / 512; sectors = sectors }

-- what holds of the fields of a target
pub record FitsStore (station : Station) (disk : DiskState) : Type 0 where
  pub size : station.sectors ≡ disk.sectors
  pub bound : station.sectors ≤ 2 ^ 40
  pub room : station.max ≤ 17
