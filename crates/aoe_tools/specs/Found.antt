-- The devices that are found, by the responses that count.
use Rattle.std.specs.Prelude.{ℕ, ◌≡◌, not, ◌&&◌, List, [], ◌∷◌, ◌++◌, length, nat_lt, None, if◌then◌else◌}
use Rattle.arrayvec.specs.ArrayVec.{ArrayVec}
use Rattle.aoe_base.specs.Addresses.{holds}
use Rattle.aoe_base.specs.declared.address.Mac.{Mac}
use Rattle.aoe_base.specs.declared.address.TargetId.{TargetId}
use Rattle.aoe_initiator.specs.HostLaw.{same_id}
use Rattle.aoe_tools.specs.Asking.{Response}
use Rattle.aoe_tools.specs.One.{args_of}
use Rattle.aoe_tools.specs.declared.found.Seen.{Seen}
use Rattle.aoe_tools.specs.declared.found.State.TheVariants as state

-- a port goes last, unless it is there or there are four
abbrev pub with_port : List Mac → Mac → List Mac
with_port ports port = if nat_lt (length ports) 4 && not (holds ports port) then ports ++ port ∷ [] else ports

-- a device of which nothing but its ports and the arguments of a response is known
abbrev pub seen : TargetId → List Mac → ArrayVec ℕ → Seen
seen id ports args = record { id = id; ports = record { items = ports }; args = args; total = None; state = state.Found }

-- the ports of a device, none where it isn't there
abbrev pub ports_in : List Seen → TargetId → List Mac
ports_in [] id = []
ports_in (s ∷ list) id = if same_id id s.id then s.ports.items else ports_in list id

-- the device in its place, or last where it isn't there
abbrev pub placed : List Seen → Seen → List Seen
placed [] d = d ∷ []
placed (s ∷ list) d = if same_id d.id s.id then d ∷ list else s ∷ placed list d

-- the devices after a response of one of them from a port, with these arguments
abbrev pub noted : List Seen → TargetId → Mac → ArrayVec ℕ → List Seen
noted list id port args = placed list (seen id (with_port (ports_in list id) port) args)

-- the devices by the responses, of which the latest is the first: each in the order of its first response, with the ports that its
-- responses came from in the order of the first of each, up to four, and with the arguments of its latest response
abbrev pub found_in : List Response → List Seen
found_in [] = []
found_in (r ∷ earlier) = noted (found_in earlier) r.reply.id r.reply.source (args_of r)

-- each is kept under its name
abbrev pub AreNamed : List (TargetId × Seen) → Type 0
AreNamed [] = Unit {0}
AreNamed (e ∷ entries) = (e.0 ≡ e.1.id) × AreNamed entries
