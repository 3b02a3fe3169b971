-- What of the stations of a script is built, line by line.
use Rattle.std.specs.Prelude.{ℕ, ◌≡◌, ◌==◌, ◌-◌, ◌^◌, ◌<◌, ◌≤◌, false, List, [], length, take, slice_get, Option, Some, None}
use Rattle.std.specs.List.{filter_map, list_any}
use Rattle.aoe_history.specs.Setup.{shelf_of, HostSetup, Setup}
use Rattle.aoe_sim_hosts.specs.Host.{IsSettled, SimHost}
use Rattle.aoe_initiator.specs.declared.device.Attached.{Attached}
use Rattle.aoe_initiator.specs.declared.device.Device.{Device}
use Rattle.aoe_initiator.specs.HostLaw.{attach_refusal}
use Rattle.aoe_sim_setup.specs.Layout.{host_in, majors_of, setup_of, stations_of, Placed}
use Rattle.aoe_sim_setup.specs.Stations.{IsCache}
use Rattle.aoe_base.specs.Addresses.{IsDistinct}
use Rattle.aoe_sim_shelves.specs.Shelf.{SimShelf, Serves}
use Rattle.aoe_script.specs.declared.setup.Setup.{Setup as Line}
use Rattle.aoe_world.specs.declared.place.Place.{Place}
use Rattle.aoe_world.specs.declared.sim.Sim.{Sim}
use Rattle.aoe_world.specs.Sim.{IsAt}

-- a host with these devices can be attached to this one
pub record CanAttach (d : Attached) (devices : List Device) : Type 0 where
  pub distinct : IsDistinct d.remotes.items
  pub total : d.total ≤ 2 ^ 48
  pub some : 0 < d.max
  pub most : d.max ≤ 17
  pub few : length devices < 2 ^ 32 - 1
  pub allowed : attach_refusal d.id d.remotes.items devices ≡ None

-- a shelf has room for a slot of this number, this size and this cache
pub record CanAdd (minor sectors : ℕ) (room : Option ℕ) (x : SimShelf) : Type 0 where
  pub number : minor < 255
  pub size : sectors ≤ 2 ^ 40
  pub cache : IsCache room
  pub few : length x.shelf.targets < 16
  pub other : list_any (λ t. t.station.id.minor == minor) x.shelf.targets ≡ false

-- each element of the second list is what that of the first at the same place says
pub record Along {X Y : Type 0} (R : X → Y → Type 0) (xs : List X) (ys : List Y) : Type 0 where
  pub count : length ys ≡ length xs
  pub each : (i : ℕ) (x : X) (y : Y) → slice_get xs i ≡ Some x → slice_get ys i ≡ Some y → R x y

-- the shelf with a number, of which nothing was said yet
abbrev pub IsShelf : Setup → ℕ → SimShelf → Type 0
IsShelf s major x = (x.shelf.major ≡ major) × Serves (shelf_of s major) [] x

abbrev pub IsHost : Setup → HostSetup → SimHost → Type 0
IsHost s host x = IsSettled s host [] x

abbrev pub IsPlace : Setup → List ℕ → Placed → Place → Type 0
IsPlace s majors p place = (place.name ≡ p.name) × (place.ports.items ≡ p.ports) × IsAt s majors place.at p.station

-- the stations of the first n lines
pub record IsBuilt (lines : List Line) (n : ℕ) (sim : Sim) (places : List Place) : Type 0 where
  pub life : sim.run.life ≡ (setup_of lines).life
  pub nothing : sim.run.entries ≡ []
  pub shelves_are : Along (IsShelf (setup_of lines)) (majors_of (take n lines)) sim.shelves.items
  pub hosts_are : Along (IsHost (setup_of lines)) (filter_map (host_in lines) (take n lines)) sim.hosts.items
  pub places_are : Along (IsPlace (setup_of lines) (majors_of lines)) (stations_of (take n lines)) places
