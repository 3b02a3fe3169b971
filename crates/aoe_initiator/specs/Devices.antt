-- The devices of a host, with the order of the commands at each and the paths to it.
use Rattle.std.specs.Prelude.{ℕ, ◌≡◌, ◌+◌, ◌-◌, ◌<◌, ◌≤◌, zero, suc, Bool, true, List, [], ◌∷◌, ◌++◌, Option, Some, None, nat_eq, nat_lt, if◌then◌else◌, slice_set, All, Contains}
use Rattle.aoe_base.specs.declared.counted.Millis.{Millis}
use Rattle.aoe_base.specs.declared.counted.PathNo.{PathNo}
use Rattle.aoe_base.specs.declared.counted.Ticket.{Ticket}
use Rattle.aoe_hold.specs.Commands.{clear_tickets}
use Rattle.aoe_hold.specs.HoldTable.{after_finish, after_send, at_time}
use Rattle.aoe_flight.specs.declared.outstanding.Flying.{Flying}
use Rattle.aoe_paths.specs.PathTable.{after_answer, next_path, pair_of, path_count, trips_of, PathTable}
use Rattle.aoe_paths.specs.Timeout.{timeout_of}
use Rattle.aoe_initiator.specs.declared.device.Arrival.{Arrival}
use Rattle.aoe_initiator.specs.declared.device.Device.{Device}
use Rattle.aoe_initiator.specs.declared.device.Route.{Route}
use Rattle.aoe_initiator.specs.HostLog.{entered_at, HostCommand}

-- a change of the device at a place
abbrev pub change_at : ℕ → (Device → Device) → List Device → List Device
change_at n change [] = []
change_at zero change (d ∷ devices) = change d ∷ devices
change_at (suc n) change (d ∷ devices) = d ∷ change_at n change devices

-- the marks of all paths, with one on the path on which an answer was missed
abbrev pub marks_after : Option PathNo → List Bool → List Bool
marks_after None marks = marks
marks_after (Some missed) marks = slice_set marks missed.0 true

-- a path is chosen for a frame, where an answer was missed on another before
abbrev pub after_choice : Option PathNo → PathNo → PathTable → PathTable
after_choice missed path table = record table { chosen = Some path.0; marks = marks_after missed table.marks }

abbrev pub device_sent : Ticket → Millis → Option PathNo → PathNo → Device → Device
device_sent ticket now missed path d = record d {
  holds = after_send d.holds ticket.0 now;
  paths = after_choice missed path d.paths;
}

-- a response came, if one did
abbrev pub after_arrival : Option Arrival → PathTable → PathTable
after_arrival None table = table
after_arrival (Some a) table = after_answer table a.path.0 a.trip

abbrev pub device_finished : Ticket → Option Arrival → Device → Device
device_finished ticket came d = record d {
  holds = after_finish d.holds ticket.0;
  paths = after_arrival came d.paths;
}

-- the route of a frame is on the next path to the device, from the port at its one end to that at the other, with its name and its
-- flush command
pub record IsRoute (d : Device) (missed : Option PathNo) (route : Route) : Type 0 where
  pub next : route.path.0 ≡ next_path (marks_after missed d.paths.marks) d.paths.chosen
  pub inside : route.path.0 < path_count d.paths
  pub target : route.target ≡ d.about.id
  pub flush : route.flush ≡ d.about.flush
  pub pair : pair_of d.paths route.path.0 ≡ Some (route.local, route.remote)
  pub timeout : route.timeout.0 ≡ timeout_of (trips_of d.paths route.path.0)

-- the round trip of a response, as it is known of a flying command
abbrev pub trip_from : ℕ → Flying → Option Millis
trip_from now flying = if nat_eq flying.sends 1 then Some (record { 0 = now - flying.first.0 }) else None

abbrev pub device_at : ℕ → Device → Device
device_at now d = record d { holds = at_time d.holds now }

-- the tickets of the commands that may be sent for the first time, at all devices, counted from a number on
abbrev pub all_clear : ℕ → ℕ → List HostCommand → ℕ → List Device → List ℕ
all_clear life now cs n [] = []
all_clear life now cs n (d ∷ devices) = clear_tickets life now (entered_at n cs) ++ all_clear life now cs (n + 1) devices

-- the lowest of them, if there is one
abbrev pub IsLowest : List ℕ → Option Ticket → Type 0
IsLowest tickets None = tickets ≡ []
IsLowest tickets (Some ticket) = Contains tickets ticket.0 × All (λ other. ticket.0 ≤ other) tickets

abbrev pub lower_of : Option Ticket → Option Ticket → Option Ticket
lower_of None b = b
lower_of (Some a) None = Some a
lower_of (Some a) (Some b) = if nat_lt b.0 a.0 then Some b else Some a
