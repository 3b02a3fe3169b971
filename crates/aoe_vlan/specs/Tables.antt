-- What a switch knows: a table for each VLAN.
use Rattle.std.specs.Prelude.{ℕ, ◌≡◌, ◌==◌, ◌||◌, true, List, [], ◌∷◌, map, length, nat_lt, Option, Some, None, IfSome, IsSome, option_and_then, if◌then◌else◌}
use Rattle.std.specs.List.{list_any}
use Rattle.std.specs.Map.{keys_of, lookup}
use Rattle.indexmap.specs.IndexMap.{insert_entry}
use Rattle.aoe_base.specs.Addresses.{same_address}
use Rattle.aoe_base.specs.declared.address.Mac.{Mac}
use Rattle.aoe_vlan.specs.Tag.{carries}
use Rattle.aoe_vlan.specs.Switched.{Passing, inputs_of, latest, learnt}
use Rattle.aoe_vlan.specs.declared.port.PortKind.{PortKind}

-- addresses in the order in which they were learnt, each with its port
abbrev pub Stations : Type 0
Stations = List (Mac × ℕ)

-- the table of a VLAN
pub record Table : Type 0 where
  pub vid : ℕ
  pub stations : Stations

-- the ports of a switch and its tables
pub record Knowing : Type 0 where
  pub ports : List PortKind
  pub tables : List Table

-- the stations of a VLAN, where it has a table
abbrev pub stations_of : ℕ → List Table → Option Stations
stations_of vid [] = None
stations_of vid (t ∷ tables) = if t.vid == vid then Some t.stations else stations_of vid tables

-- the port of an address
abbrev pub found : Stations → Mac → Option ℕ
found stations a = lookup (same_address a) stations

-- an address stands at a port; it is new only where there is room
abbrev pub moved : Stations → Mac → ℕ → Stations
moved stations a port =
    if nat_lt (length stations) 256 || list_any (same_address a) (keys_of stations) then insert_entry same_address stations a port else stations

-- the tables after an address stood at a port of a VLAN
abbrev pub learnt_in : ℕ → Mac → ℕ → List Table → List Table
learnt_in vid a port [] = []
learnt_in vid a port (t ∷ tables) =
    if t.vid == vid then record t { stations = moved t.stations a port } ∷ tables else t ∷ learnt_in vid a port tables

-- the port of an address of a VLAN
abbrev pub found_in : ℕ → List Table → Mac → Option ℕ
found_in vid tables a = option_and_then (λ stations. found stations a) (stations_of vid tables)

-- what is learnt from the inputs of a VLAN
abbrev pub taught : List Passing → Stations
taught own = map (λ a. (a, latest a own)) (learnt own)

-- each table has what is learnt from these inputs
abbrev pub HasLearnt : Knowing → List Passing → Type 0
HasLearnt switch inputs = (vid : ℕ) → IfSome (stations_of vid switch.tables) (λ stations. stations ≡ taught (inputs_of switch.ports vid inputs))

-- there are inputs from which it learnt
abbrev pub CanHaveLearnt : Knowing → Type 0
CanHaveLearnt switch = (inputs : List Passing) × HasLearnt switch inputs

-- each VLAN of a port has a table
abbrev pub AreCovered : List PortKind → List Table → Type 0
AreCovered ports tables = (vid : ℕ) → list_any (carries vid) ports ≡ true → IsSome (stations_of vid tables)

-- no table has an address
abbrev pub AreBlank : List Table → Type 0
AreBlank tables = (vid : ℕ) → IfSome (stations_of vid tables) (λ stations. stations ≡ [])

-- which VLAN had a table has one
abbrev pub AreKept : List Table → List Table → Type 0
AreKept before after = (vid : ℕ) → IsSome (stations_of vid before) → IsSome (stations_of vid after)
