-- What a setup line may declare.
use Rattle.std.specs.Prelude.{Bool}
use Rattle.aoe_script.specs.declared.setup.Setup.{Setup}
use Rattle.aoe_script.specs.declared.standing.Kind.{Kind}
use Rattle.aoe_script.specs.declared.standing.Kind.TheVariants.{Life, Shelf, Host, ShelfNamed, HostNamed, StationNamed, Major, Port, SlotOf, Slot, Attached, Marked}
use Rattle.aoe_script.specs.Rules.{attaches, has_major, has_port, is_host, is_host_named, is_life, is_shelf, is_shelf_named, is_slot, is_slot_of, is_station_named, marks}

abbrev pub is_of : Kind → Setup → Bool
is_of Life = is_life
is_of Shelf = is_shelf
is_of Host = is_host
is_of (ShelfNamed name) = is_shelf_named name.now
is_of (HostNamed name) = is_host_named name.now
is_of (StationNamed name) = is_station_named name.now
is_of (Major major) = has_major major
is_of (Port mac) = has_port mac.now
is_of (SlotOf shelf) = is_slot_of shelf.now
is_of (Slot shelf minor) = is_slot shelf.now minor
is_of (Attached host shelf minor) = attaches host.now shelf.now minor
is_of (Marked shelf minor) = marks shelf.now minor
