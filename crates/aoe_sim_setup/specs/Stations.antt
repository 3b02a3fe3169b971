-- What holds of the stations that setup lines declare, and of the events behind them.
use Rattle.std.specs.Prelude.{ℕ, ◌≡◌, ◌≢◌, ◌≤◌, ◌<◌, true, false, List, length, slice_get, Option, Some, Contains, IfSome, IsSome}
use Rattle.arrayvec.specs.ArrayVec.{ArrayVec}
use Rattle.aoe_base.specs.declared.address.Mac.{Mac}
use Rattle.aoe_base.specs.declared.address.TargetId.{TargetId}
use Rattle.aoe_base.specs.Addresses.{holds, IsDistinct}
use Rattle.aoe_base.specs.Sizes.{longest_frame, longest_lifetime, most_cached, most_simulated}
use Rattle.aoe_frame.specs.Header.{fields}
use Rattle.aoe_initiator.specs.declared.device.Attached.{Attached}
use Rattle.aoe_initiator.specs.HostLaw.{same_id}
use Rattle.aoe_history.specs.Setup.{device_place, host_called, is_called, is_port, shelf_of, slot_of, AreSlots, HostSetup, Setup, SlotSetup}
use Rattle.aoe_script.specs.declared.event.Event.{Event}
use Rattle.aoe_script.specs.declared.event.Event.TheVariants.{Read, Write, Flush, Identify, Config, Masks, Reserve, Tick, Deliver, Pass, Skip, Again, Inject, Fail, Stop, Crash}
use Rattle.aoe_script.specs.declared.setup.Setup.{Setup as Line}
use Rattle.aoe_script.specs.declared.setup.Setup.TheVariants.{Shelf, Host}
use Rattle.aoe_script.specs.Rules.{longest_wait}
use Rattle.aoe_history.specs.Groups.Station.{Shelf as ShelfStation, Host as HostStation}
use Rattle.aoe_sim_setup.specs.Layout.{majors_of, station_named, host_of, slots_of_shelf, stations_of, Placed}

-- ---- hosts

-- a host is found by its name, and no two have one name
pub record HasHosts (lines : List Line) (s : Setup) : Type 0 where
  pub line_called : (k : ℕ) (name : ArrayVec ℕ) (ports : ArrayVec Mac) (room dead : Option ℕ) → slice_get lines k ≡ Some (Host name ports room dead)
      → host_called s name ≡ Some (host_of lines name ports.items room dead)
  pub called : (i : ℕ) (host : HostSetup) (name : ArrayVec ℕ) → slice_get s.hosts i ≡ Some host → is_called host name ≡ true → host_called s name ≡ Some host
  pub names : (i j : ℕ) (a b : HostSetup) (name : ArrayVec ℕ) → slice_get s.hosts i ≡ Some a → slice_get s.hosts j ≡ Some b → i ≢ j
      → is_called a name ≡ true → is_called b name ≡ false

-- ---- shelves

-- the slots with the number of a shelf line are those of its shelf, 16 at most, and of 16 shelves at most no two have one number
pub record HasShelves (lines : List Line) (s : Setup) : Type 0 where
  pub all : (k : ℕ) (name : ArrayVec ℕ) (major : ℕ) (ports : ArrayVec Mac) (mtu : ℕ) → slice_get lines k ≡ Some (Shelf name major ports mtu)
      → shelf_of s major ≡ slots_of_shelf lines (Shelf name major ports mtu)
  pub slots : (k : ℕ) (name : ArrayVec ℕ) (major : ℕ) (ports : ArrayVec Mac) (mtu : ℕ) → slice_get lines k ≡ Some (Shelf name major ports mtu)
      → AreSlots s (slots_of_shelf lines (Shelf name major ports mtu))
  pub few : (k : ℕ) (name : ArrayVec ℕ) (major : ℕ) (ports : ArrayVec Mac) (mtu : ℕ) → slice_get lines k ≡ Some (Shelf name major ports mtu)
      → length (slots_of_shelf lines (Shelf name major ports mtu)) ≤ 16
  pub few_shelves : length (majors_of lines) ≤ 16
  pub by_number : (i major : ℕ) → slice_get (majors_of lines) i ≡ Some major → AreSlots s (shelf_of s major)
  pub numbers : (i j a b : ℕ) → slice_get (majors_of lines) i ≡ Some a → slice_get (majors_of lines) j ≡ Some b → i ≢ j → a ≢ b

-- ---- ranges

-- one to four addresses, none twice
pub record ArePorts (ports : List Mac) : Type 0 where
  pub some : 0 < length ports
  pub few : length ports ≤ 4
  pub distinct : IsDistinct ports

-- a device that a host is attached to
pub record IsDevice (d : Attached) : Type 0 where
  pub remotes : ArePorts d.remotes.items
  pub major : d.id.major < 65535
  pub minor : d.id.minor < 255
  pub sectors : 0 < d.total
  pub size : d.total ≤ most_simulated
  pub some : 0 < d.max
  pub max : d.max ≤ 17

pub record IsHost (host : HostSetup) : Type 0 where
  pub ports : ArePorts host.ports
  pub some_room : 0 < host.room
  pub room : host.room ≤ 16384
  pub some_time : 0 < host.dead
  pub dead : host.dead ≤ longest_wait
  pub devices : (i : ℕ) (d : Attached) → slice_get host.devices i ≡ Some d → IsDevice d
  pub apart : (i j : ℕ) (a b : Attached) → slice_get host.devices i ≡ Some a → slice_get host.devices j ≡ Some b → i ≢ j → same_id a.id b.id ≡ false

-- a cache has room for a sector at least
abbrev pub IsCache : Option ℕ → Type 0
IsCache cache = IfSome cache (λ room. (1 ≤ room) × (room ≤ most_cached))

pub record IsSlot (slot : SlotSetup) : Type 0 where
  pub ports : ArePorts slot.station.ports.items
  pub sectors : 0 < slot.station.sectors
  pub size : slot.station.sectors ≤ most_simulated
  pub some : 0 < slot.station.max
  pub max : slot.station.max ≤ 17
  pub cache : IsCache slot.cache

pub record HasRanges (s : Setup) : Type 0 where
  pub requests : s.life.requests.0 ≤ longest_lifetime
  pub responses : s.life.responses.0 ≤ longest_lifetime
  pub few_hosts : length s.hosts ≤ 16
  pub hosts : (i : ℕ) (host : HostSetup) → slice_get s.hosts i ≡ Some host → IsHost host
  pub slots : (i : ℕ) (slot : SlotSetup) → slice_get s.slots i ≡ Some slot → IsSlot slot

-- ---- stations

-- a station is found by its name, and no two have one name or one address
pub record HasStations (lines : List Line) : Type 0 where
  pub found : (i : ℕ) (p : Placed) → slice_get (stations_of lines) i ≡ Some p → station_named lines p.name ≡ Some p
  pub names : (i j : ℕ) (a b : Placed) → slice_get (stations_of lines) i ≡ Some a → slice_get (stations_of lines) j ≡ Some b → i ≢ j → a.name ≢ b.name
  pub ports : (i j : ℕ) (a b : Placed) (port : Mac) → slice_get (stations_of lines) i ≡ Some a → slice_get (stations_of lines) j ≡ Some b
      → holds a.ports port ≡ true → holds b.ports port ≡ true → i ≡ j

-- ---- events

-- the host is there, and attached to the device
pub record IsAsked (lines : List Line) (s : Setup) (name : ArrayVec ℕ) (dev : TargetId) : Type 0 where
  pub host : HostSetup
  pub called : host_called s name ≡ Some host
  pub device : IsSome (device_place host dev)
  pub station : station_named lines name ≡ Some record { name = name; ports = host.ports; station = HostStation name }

-- the device is a slot of a shelf
pub record IsThere (lines : List Line) (s : Setup) (dev : TargetId) : Type 0 where
  pub slot : SlotSetup
  pub called : slot.station.id ≡ dev
  pub there : slot_of s dev ≡ Some slot
  pub number : Contains (majors_of lines) dev.major
  pub inside : Contains (shelf_of s dev.major) slot

-- a station has the name
pub record IsStation (lines : List Line) (name : ArrayVec ℕ) : Type 0 where
  pub at : ℕ
  pub place : Placed
  pub there : slice_get (stations_of lines) at ≡ Some place
  pub called : place.name ≡ name
  pub found : station_named lines name ≡ Some place

-- a shelf has the name
pub record IsShelf (lines : List Line) (name : ArrayVec ℕ) : Type 0 where
  pub at : ℕ
  pub major : ℕ
  pub ports : ArrayVec Mac
  pub mtu : ℕ
  pub there : slice_get lines at ≡ Some (Shelf name major ports mtu)
  pub found : station_named lines name ≡ Some record { name = name; ports = ports.items; station = ShelfStation major }

-- an event speaks of stations and devices that are there, and its numbers are in their ranges
abbrev pub CanCome : List Line → Setup → Event → Type 0
CanCome lines s (Read host dev at count) = IsAsked lines s host dev
CanCome lines s (Write host dev at count fill) = IsAsked lines s host dev
CanCome lines s (Flush host dev) = IsAsked lines s host dev
CanCome lines s (Identify host dev) = IsAsked lines s host dev
CanCome lines s (Config host dev ccmd text) = IsAsked lines s host dev
CanCome lines s (Masks host dev edit dirs) = IsAsked lines s host dev
CanCome lines s (Reserve host dev rcmd list) = IsAsked lines s host dev
CanCome lines s (Tick ms) = (1 ≤ ms) × (ms ≤ longest_wait)
CanCome lines s (Deliver frame station) = IsStation lines station × (1 ≤ frame) × (frame ≤ 4294967295)
CanCome lines s (Pass n) = (1 ≤ n) × (n ≤ 10000)
CanCome lines s (Skip n) = (1 ≤ n) × (n ≤ 10000)
CanCome lines s Again = Unit {0}
CanCome lines s (Inject bytes) = (is_port s (fields bytes).src ≡ false) × (14 ≤ length bytes) × (length bytes ≤ longest_frame)
CanCome lines s (Fail dev which k) = IsThere lines s dev × (1 ≤ k) × (k ≤ 1000)
CanCome lines s (Stop dev which k mode) = IsThere lines s dev × (1 ≤ k) × (k ≤ 1000)
CanCome lines s (Crash shelf mode) = IsShelf lines shelf
