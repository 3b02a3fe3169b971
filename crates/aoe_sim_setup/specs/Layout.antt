-- What the setup lines of a script declare, in the words of histories.
use Rattle.std.specs.Prelude.{ℕ, Bool, List, [], Option, Some, None, option_map, option_and_then, unwrap_or, is_some, if◌then◌else◌}
use Rattle.std.specs.List.{filter_map, find, flat_map, list_any}
use Rattle.arrayvec.specs.ArrayVec.{ArrayVec}
use Rattle.aoe_base.specs.declared.address.Mac.{Mac}
use Rattle.aoe_base.specs.declared.counted.Lifetimes.{Lifetimes}
use Rattle.aoe_initiator.specs.declared.device.Attached.{Attached}
use Rattle.aoe_initiator.specs.declared.op.FlushCommand.TheVariants.{CacheExt}
use Rattle.aoe_initiator.specs.Defaults.{default_dead, default_life, default_room}
use Rattle.aoe_target.specs.Mounted.{station_of}
use Rattle.aoe_history.specs.Groups.{Station}
use Rattle.aoe_history.specs.Groups.Station.{Shelf as ShelfStation, Host as HostStation}
use Rattle.aoe_history.specs.Setup.{slot_over, HostSetup, Setup, SlotSetup}
use Rattle.aoe_script.specs.declared.setup.Setup.{Setup as Line}
use Rattle.aoe_script.specs.declared.setup.Setup.TheVariants.{Life, Shelf, Slot, Host, Attach}
use Rattle.aoe_script.specs.Rules.{is_shelf_named, is_slot, marks, same}

-- how long frames can be handed over, where a line says it: responses as long as requests, where it says no other number
abbrev pub life_in : Line → Option Lifetimes
life_in (Life requests responses) = Some (record { requests = record { 0 = requests }; responses = record { 0 = unwrap_or responses requests } })
life_in line = None

-- a slot of the shelf with this number, these ports and this mtu; its store has a cache where its line gives a room
abbrev pub slot_with : (major : ℕ) → List Mac → (mtu minor sectors : ℕ) → (room : Option ℕ) → (read_only : Bool) → SlotSetup
slot_with major ports mtu minor sectors room read_only = slot_over (station_of record { major = major; minor = minor } ports mtu sectors) room read_only

-- a line marks the slot as read-only, wherever it stands
abbrev pub is_marked : List Line → ArrayVec ℕ → ℕ → Bool
is_marked lines shelf minor = list_any (marks shelf minor) lines

-- a slot line, where its shelf has this number, these ports and this mtu
abbrev pub slot_at : List Line → ℕ → List Mac → ℕ → Line → Option SlotSetup
slot_at lines major ports mtu (Slot shelf minor sectors room) = Some (slot_with major ports mtu minor sectors room (is_marked lines shelf minor))
slot_at lines major ports mtu line = None

-- a slot line of the shelf with this name
abbrev pub slot_of_shelf : List Line → ArrayVec ℕ → ℕ → List Mac → ℕ → Line → Option SlotSetup
slot_of_shelf lines name major ports mtu (Slot shelf minor sectors room) =
    if same shelf name then Some (slot_with major ports mtu minor sectors room (is_marked lines name minor)) else None
slot_of_shelf lines name major ports mtu line = None

-- the slots of a shelf, in the order of their lines
abbrev pub slots_of_shelf : List Line → Line → List SlotSetup
slots_of_shelf lines (Shelf name major ports mtu) = filter_map (slot_of_shelf lines name major ports.items mtu) lines
slots_of_shelf lines line = []

-- the slot of a shelf that a line names
abbrev pub slot_by : List Line → Line → Line → Option SlotSetup
slot_by lines (Shelf name major ports mtu) line = slot_at lines major ports.items mtu line
slot_by lines other line = None

abbrev pub slot_named : List Line → ArrayVec ℕ → ℕ → Option SlotSetup
slot_named lines shelf minor =
    option_and_then (λ (s : Line). option_and_then (slot_by lines s) (find (is_slot shelf minor) lines)) (find (is_shelf_named shelf) lines)

-- what a host knows of a slot that it is attached to: shelves take FLUSH CACHE EXT
abbrev pub about : SlotSetup → Attached
about slot = record { id = slot.station.id; remotes = slot.station.ports; total = slot.station.sectors; max = slot.station.max; flush = CacheExt }

abbrev pub attached_to : List Line → ArrayVec ℕ → Line → Option Attached
attached_to lines host (Attach other shelf minor) = if same other host then option_map about (slot_named lines shelf minor) else None
attached_to lines host line = None

-- the devices of a host, in the order of their lines
abbrev pub devices_of : List Line → ArrayVec ℕ → List Attached
devices_of lines host = filter_map (attached_to lines host) lines

abbrev pub host_of : List Line → ArrayVec ℕ → List Mac → (room dead : Option ℕ) → HostSetup
host_of lines name ports room dead = record {
  name = name.items;
  ports = ports;
  room = unwrap_or room default_room;
  dead = unwrap_or dead default_dead;
  devices = devices_of lines name;
}

abbrev pub host_in : List Line → Line → Option HostSetup
host_in lines (Host name ports room dead) = Some (host_of lines name ports.items room dead)
host_in lines line = None

-- what setup lines declare: the slots stand by their shelves, and shelves, slots and hosts in the order of their lines
abbrev pub setup_of : List Line → Setup
setup_of lines = record {
  life = unwrap_or (option_and_then life_in (find (λ line. is_some (life_in line)) lines)) default_life;
  hosts = filter_map (host_in lines) lines;
  slots = flat_map (slots_of_shelf lines) lines;
}

-- the addresses of a line
abbrev pub addresses_in : Line → List Mac
addresses_in (Shelf name major ports mtu) = ports.items
addresses_in (Host name ports room dead) = ports.items
addresses_in line = []

-- a station with its name and its ports
pub record Placed : Type 0 where
  pub name : ArrayVec ℕ
  pub ports : List Mac
  pub station : Station

abbrev pub placed : Line → Option Placed
placed (Shelf name major ports mtu) = Some (record { name = name; ports = ports.items; station = ShelfStation major })
placed (Host name ports room dead) = Some (record { name = name; ports = ports.items; station = HostStation name })
placed line = None

-- all stations, in the order of their lines
abbrev pub stations_of : List Line → List Placed
stations_of lines = filter_map placed lines

-- the one with this name
abbrev pub station_named : List Line → ArrayVec ℕ → Option Placed
station_named lines name = find (λ (p : Placed). same p.name name) (stations_of lines)

-- the numbers of the shelves, in the order of their lines
abbrev pub major_in : Line → Option ℕ
major_in (Shelf name major ports mtu) = Some major
major_in line = None

abbrev pub majors_of : List Line → List ℕ
majors_of lines = filter_map major_in lines
