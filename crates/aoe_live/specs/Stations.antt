-- The stations of a run, and what its host asks.
use Rattle.std.specs.Prelude.{ℕ, ◌-◌, ◌%◌, ◌==◌, List, [], ◌∷◌, codes, None, if◌then◌else◌}
use Rattle.arrayvec.specs.ArrayVec.{ArrayVec}
use Rattle.aoe_base.specs.declared.address.Mac.{Mac}
use Rattle.aoe_base.specs.declared.address.TargetId.{TargetId}
use Rattle.aoe_script.specs.declared.event.Event.{Event}
use Rattle.aoe_script.specs.declared.event.Event.TheVariants.{Read, Write, Flush}
use Rattle.aoe_script.specs.declared.setup.Setup.{Setup}
use Rattle.aoe_script.specs.declared.setup.Setup.TheVariants.{Life, Shelf, Slot, Host, Attach}

abbrev pub shelf_s : ArrayVec ℕ
shelf_s = record { items = codes "s" }

abbrev pub host_a : ArrayVec ℕ
host_a = record { items = codes "a" }

-- the one slot
abbrev pub device : TargetId
device = record { major = 1; minor = 0 }

abbrev pub port_s : Mac
port_s = record { 0 = 2 ∷ 0 ∷ 0 ∷ 0 ∷ 0 ∷ 1 ∷ [] }

abbrev pub port_a : Mac
port_a = record { 0 = 2 ∷ 0 ∷ 0 ∷ 0 ∷ 0 ∷ 10 ∷ [] }

-- the setup lines: how long a frame can be handed over, a shelf with one slot of so many sectors, and a host that is attached to it
abbrev pub stations : ℕ → List Setup
stations sectors =
    Life 2000 None
    ∷ Shelf shelf_s 1 (record { items = port_s ∷ [] }) 1500
    ∷ Slot shelf_s 0 sectors None
    ∷ Host host_a (record { items = port_a ∷ [] }) None None
    ∷ Attach host_a shelf_s 0
    ∷ []

-- command i of so many, from 0: a write of the next sector, or a read of the sector that was written last; behind them one flush
abbrev pub command : (sectors count i : ℕ) → Event
command sectors count i =
    if i == count then Flush host_a device
    else if i % 2 == 0 then Write host_a device (i % sectors) 1 (i % 256)
    else Read host_a device ((i - 1) % sectors) 1
