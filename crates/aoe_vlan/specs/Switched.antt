-- What a switch gives for all frames that came in, where the latest of them stands first.
use Rattle.std.specs.Prelude.{ℕ, ◌≡◌, ◌==◌, ◌&&◌, not, Bool, false, List, [], ◌∷◌, ◌++◌, length, take, filter, map, slice_get, Option, Some, None, option_and_then, if◌then◌else◌}
use Rattle.std.specs.List.{range_with_len}
use Rattle.aoe_base.specs.Addresses.{holds, is_individual, same_address, source_of}
use Rattle.aoe_base.specs.declared.address.Mac.{Mac}
use Rattle.aoe_lists.specs.Addresses.{first_places}
use Rattle.aoe_vlan.specs.Tag.{carries, destination_of, formed, vlan_of}
use Rattle.aoe_vlan.specs.declared.port.PortKind.{PortKind}
use Rattle.aoe_vlan.specs.declared.port.PortKind.TheVariants.{Access}

-- a frame that came in at a port, or goes out at one
pub record Passing : Type 0 where
  pub port : ℕ
  pub frame : List ℕ

abbrev pub passing : ℕ → List ℕ → Passing
passing port frame = record { port = port; frame = frame }

-- the VLAN of a frame that came in
abbrev pub vlan_at : List PortKind → Passing → Option ℕ
vlan_at ports i = option_and_then (λ kind. vlan_of kind i.frame) (slice_get ports i.port)

abbrev pub is_vlan : ℕ → Option ℕ → Bool
is_vlan vid None = false
is_vlan vid (Some number) = number == vid

-- those of a VLAN
abbrev pub inputs_of : List PortKind → ℕ → List Passing → List Passing
inputs_of ports vid inputs = filter (λ i. is_vlan vid (vlan_at ports i)) inputs

-- their sources, in the order in which they came
abbrev pub sources : List Passing → List Mac
sources [] = []
sources (i ∷ own) = sources own ++ source_of i.frame ∷ []

-- the addresses that are learnt from the inputs of a VLAN: the first 256 that differ (IEEE 802.1Q, "The Learning Process")
abbrev pub learnt : List Passing → List Mac
learnt own = take 256 (first_places (sources own))

-- the port at which an address was the source last
abbrev pub latest : Mac → List Passing → ℕ
latest a [] = 0
latest a (i ∷ own) = if same_address (source_of i.frame) a then i.port else latest a own

-- the port of an address that is learnt
abbrev pub place : List Passing → Mac → Option ℕ
place own a = if holds (learnt own) a then Some (latest a own) else None

abbrev pub carries_at : ℕ → Option PortKind → Bool
carries_at vid None = false
carries_at vid (Some kind) = carries vid kind

-- a port is one of a VLAN, and another than this
abbrev pub is_other : List PortKind → ℕ → ℕ → ℕ → Bool
is_other ports vid port q = not (q == port) && carries_at vid (slice_get ports q)

-- the ports of a VLAN, but for one
abbrev pub others : List PortKind → ℕ → ℕ → List ℕ
others ports vid port = filter (is_other ports vid port) (range_with_len 0 (length ports))

-- where a frame goes whose destination is at a port, or isn't learnt
abbrev pub toward : List PortKind → ℕ → ℕ → Option ℕ → List ℕ
toward ports vid port None = others ports vid port
toward ports vid port (Some q) = if q == port then [] else q ∷ []

-- the ports to which an input of a VLAN goes, where these are the inputs of that VLAN, itself the latest (IEEE 802.1Q, "Frame filtering")
abbrev pub goes_to : List PortKind → ℕ → List Passing → Passing → List ℕ
goes_to ports vid own i =
    let a = destination_of i.frame in
    toward ports vid i.port (if is_individual a then place own a else None)

-- the ports to which an input goes behind these; to none, where it is of no VLAN
abbrev pub going_in : List PortKind → List Passing → Passing → Option ℕ → List ℕ
going_in ports inputs i None = []
going_in ports inputs i (Some vid) = goes_to ports vid (inputs_of ports vid (i ∷ inputs)) i

abbrev pub going : List PortKind → List Passing → Passing → List ℕ
going ports inputs i = going_in ports inputs i (vlan_at ports i)

-- a frame as a port gives it
abbrev pub formed_at : Option PortKind → ℕ → List ℕ → List ℕ
formed_at None vid frame = []
formed_at (Some kind) vid frame = formed kind vid frame

abbrev pub given_in : List PortKind → Passing → List ℕ → Option ℕ → List Passing
given_in ports i to None = []
given_in ports i to (Some vid) = map (λ q. record { port = q; frame = formed_at (slice_get ports q) vid i.frame }) to

-- what an input gives behind these
abbrev pub given : List PortKind → List Passing → Passing → List Passing
given ports inputs i = given_in ports i (going ports inputs i) (vlan_at ports i)

-- what all inputs give, in order
abbrev pub switched : List PortKind → List Passing → List Passing
switched ports [] = []
switched ports (i ∷ inputs) = switched ports inputs ++ given ports inputs i

-- what the inputs of a VLAN give, among all inputs
abbrev pub switched_from : List PortKind → ℕ → List Passing → List Passing
switched_from ports vid [] = []
switched_from ports vid (i ∷ inputs) = switched_from ports vid inputs ++ (if is_vlan vid (vlan_at ports i) then given ports inputs i else [])

-- what goes out at a port
abbrev pub at_port : ℕ → List Passing → List Passing
at_port port outputs = filter (λ o. o.port == port) outputs

-- a port is of one VLAN
abbrev pub IsAccess : List PortKind → ℕ → ℕ → Type 0
IsAccess ports port vid = slice_get ports port ≡ Some (Access vid)
