-- The stations of a network: what of hosts and slots never changes.
use Rattle.std.specs.Prelude.{ℕ, ◌≡◌, ◌≢◌, ◌≤◌, ◌<◌, ◌*◌, ◌+◌, true, false, Bool, ◌||◌, nat_eq, List, length, slice_get, Option, Some, position, find, filter, Contains, unwrap_or}
use Rattle.std.specs.List.{list_any}
use Rattle.std.specs.Str.{bytes_eq}
use Rattle.arrayvec.specs.ArrayVec.{ArrayVec}
use Rattle.aoe_base.specs.declared.address.Mac.{Mac}
use Rattle.aoe_base.specs.declared.address.TargetId.{TargetId}
use Rattle.aoe_base.specs.declared.counted.DeviceNo.{DeviceNo}
use Rattle.aoe_base.specs.declared.counted.PathNo.{PathNo}
use Rattle.aoe_base.specs.Addresses.{holds, same_address}
use Rattle.aoe_base.specs.declared.counted.Lifetimes.{Lifetimes}
use Rattle.aoe_initiator.specs.declared.device.Attached.{Attached}
use Rattle.aoe_initiator.specs.HostLaw.{same_id}
use Rattle.aoe_lists.specs.Settings.{empty_settings, Settings}
use Rattle.aoe_target.specs.declared.station.Station.{Station}

-- a host: its name, its ports, how many commands may fly or rest, after how long one is given up, and the devices
-- that it is attached to
pub record HostSetup : Type 0 where
  pub name : List ℕ
  pub ports : List Mac
  pub room : ℕ
  pub dead : ℕ
  pub devices : List Attached

-- a slot: its name, its shelf's ports and its size, for how many sectors its store has a cache, where it has one, and the lists
-- that its keep has at the beginning
pub record SlotSetup : Type 0 where
  pub station : Station
  pub cache : Option ℕ
  pub lists : Settings

-- a slot whose keep has empty lists at the beginning, with the read-only mark or without it
abbrev pub slot_over : Station → Option ℕ → (read_only : Bool) → SlotSetup
slot_over station cache read_only = record { station = station; cache = cache; lists = record empty_settings { read_only = read_only } }

-- how long frames can be handed over after their sending, the hosts in their order, and the slots of all shelves in
-- theirs; times in milliseconds
pub record Setup : Type 0 where
  pub life : Lifetimes
  pub hosts : List HostSetup
  pub slots : List SlotSetup

abbrev pub is_called : HostSetup → ArrayVec ℕ → Bool
is_called host name = bytes_eq host.name name.items

abbrev pub host_called : Setup → ArrayVec ℕ → Option HostSetup
host_called s name = find (λ host. is_called host name) s.hosts

abbrev pub is_slot : SlotSetup → TargetId → Bool
is_slot slot id = same_id slot.station.id id

abbrev pub slot_of : Setup → TargetId → Option SlotSetup
slot_of s id = find (λ slot. is_slot slot id) s.slots

-- a shelf is its slots: those with its number
abbrev pub shelf_of : Setup → ℕ → List SlotSetup
shelf_of s major = filter (λ slot. nat_eq slot.station.id.major major) s.slots

-- no two slots have one name
abbrev pub AreApart : List SlotSetup → Type 0
AreApart slots = (i j : ℕ) (a b : SlotSetup) → slice_get slots i ≡ Some a → slice_get slots j ≡ Some b → i ≢ j → is_slot a b.station.id ≡ false

-- slots of the setup, of which no two have one name
pub record AreSlots (s : Setup) (slots : List SlotSetup) : Type 0 where
  pub there : (i : ℕ) (slot : SlotSetup) → slice_get slots i ≡ Some slot → slot_of s slot.station.id ≡ Some slot
  pub apart : AreApart slots

abbrev pub device_place : HostSetup → TargetId → Option ℕ
device_place host id = position (λ (d : Attached). same_id d.id id) host.devices

-- a device of the host, counted from 0 in the order of attachment
abbrev pub device_no : HostSetup → TargetId → DeviceNo
device_no host id = record { 0 = unwrap_or (device_place host id) 0 }

-- the path from a local to a remote port: `local * remotes + remote`, both counted from 0
abbrev pub path_no : HostSetup → Attached → Mac → Mac → PathNo
path_no host d local remote = record {
  0 = unwrap_or (position (same_address local) host.ports) 0 * length d.remotes.items + unwrap_or (position (same_address remote) d.remotes.items) 0;
}

-- an address is a port of a station
abbrev pub is_port : Setup → Mac → Bool
is_port s a = list_any (λ (host : HostSetup). holds host.ports a) s.hosts || list_any (λ (slot : SlotSetup). holds slot.station.ports.items a) s.slots

-- a device that a host is attached to is a slot, with the ports and the size that the host knows
pub record IsAttachedTo (s : Setup) (d : Attached) : Type 0 where
  pub slot : SlotSetup
  pub there : slot_of s d.id ≡ Some slot
  pub remotes : d.remotes ≡ slot.station.ports
  pub total : d.total ≡ slot.station.sectors
  pub max : d.max ≡ slot.station.max

-- each station has an address of its own and a name of its own, and hosts are attached to slots that are there
pub record IsSetup (s : Setup) : Type 0 where
  pub host_addresses : (host : HostSetup) (port : Mac) → Contains s.hosts host → holds host.ports port ≡ true → length port.0 ≡ 6
  pub shelf_addresses : (slot : SlotSetup) (port : Mac) → Contains s.slots slot → holds slot.station.ports.items port ≡ true → length port.0 ≡ 6
  pub host_ports : (a b : HostSetup) (port : Mac) → Contains s.hosts a → Contains s.hosts b → holds a.ports port ≡ true → holds b.ports port ≡ true → a ≡ b
  pub shelf_ports : (host : HostSetup) (slot : SlotSetup) (port : Mac) → Contains s.hosts host → Contains s.slots slot → holds host.ports port ≡ true
      → holds slot.station.ports.items port ≡ true → ⊥
  pub slot_names : (slot : SlotSetup) → Contains s.slots slot → slot_of s slot.station.id ≡ Some slot
  pub some_port : (slot : SlotSetup) → Contains s.slots slot → 0 < length slot.station.ports.items
  pub majors : (slot : SlotSetup) → Contains s.slots slot → slot.station.id.major < 65535
  pub minors : (slot : SlotSetup) → Contains s.slots slot → slot.station.id.minor < 255
  pub size : (slot : SlotSetup) → Contains s.slots slot → slot.station.sectors ≤ 281474976710656
  pub max : (slot : SlotSetup) → Contains s.slots slot → slot.station.max ≤ 17
  pub attached : (host : HostSetup) (d : Attached) → Contains s.hosts host → Contains host.devices d → IsAttachedTo s d
