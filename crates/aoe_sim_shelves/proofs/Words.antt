-- A target and a shelf over disks in memory.
use Rattle.std.specs.Prelude.{List, map}
use Rattle.aoe_cache.specs.Any.{any_state}
use Rattle.aoe_cache.specs.declared.any.AnyStore.{AnyStore}
use Rattle.aoe_disk.specs.Memory.{state_of, Memory}
use Rattle.aoe_shelf.specs.Shelf.{ShelfTable}
use Rattle.aoe_target.specs.Device.{Device}
use Rattle.aoe_target.specs.Mounted.{device_of, Mounted}
use Rattle.aoe_target.specs.declared.station.Station.{Station}

abbrev pub Target : Type 0
Target = Mounted (AnyStore Memory) Memory

abbrev pub Shelf : Type 0
Shelf = ShelfTable (AnyStore Memory) Memory

-- what is told of the disks of a target
abbrev pub device : Target → Device
device t = device_of (any_state state_of) state_of t

abbrev pub stations : List Target → List Station
stations ts = map (λ t. t.station) ts
