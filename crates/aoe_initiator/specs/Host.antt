-- What a host keeps, and what it says of all that the host did.
use Rattle.std.specs.Prelude.{ℕ, ◌≡◌, ◌+◌, ◌<◌, ◌≤◌, true, not, List, [], ◌∷◌, ◌++◌, length, map, Option, Some, slice_get, All, IfSome, IsSome}
use Rattle.std.specs.List.{filter, remove}
use Rattle.std.specs.Option.{ForSome}
use Rattle.aoe_base.specs.declared.address.Mac.{Mac}
use Rattle.aoe_base.specs.declared.address.TargetId.{TargetId}
use Rattle.aoe_base.specs.declared.counted.DeviceNo.{DeviceNo}
use Rattle.aoe_base.specs.declared.counted.Lifetimes.{Lifetimes}
use Rattle.aoe_base.specs.declared.counted.Ticket.{Ticket}
use Rattle.aoe_base.specs.Addresses.{IsDistinct}
use Rattle.aoe_hold.specs.HoldTable.{no_commands as nothing_entered, Recalls as RecallsEntered}
use Rattle.aoe_flight.specs.FlightTable.{after_change, FlightTable, no_commands as nothing_sent, Recalls as RecallsSent}
use Rattle.aoe_flight.specs.Outstanding.{after_finish, rest_time}
use Rattle.aoe_paths.specs.PathLog.{PathEvent, Recalls as RecallsPaths}
use Rattle.aoe_paths.specs.PathTable.{new_paths}
use Rattle.aoe_initiator.specs.declared.device.Arrival.{Arrival}
use Rattle.aoe_initiator.specs.declared.device.Device.{Device}
use Rattle.aoe_initiator.specs.declared.op.FlushCommand.{FlushCommand}
use Rattle.aoe_initiator.specs.declared.op.Op.{Op}
use Rattle.aoe_initiator.specs.declared.outcome.Done.{Done}
use Rattle.aoe_initiator.specs.declared.outcome.Outcome.{Outcome}
use Rattle.aoe_initiator.specs.declared.pending.Pending.{Pending}
use Rattle.aoe_initiator.specs.Devices.{change_at, device_finished}
use Rattle.aoe_initiator.specs.HostLog.{clock, commands, entered_at, path_log, sent_of, Event, HostCommand}
use Rattle.aoe_initiator.specs.Op.{data_len}
use Rattle.aoe_initiator.specs.Request.{CanSpell}

-- a command without its outcome: what it asks of which device
pub record Waiting : Type 0 where
  pub ticket : Ticket
  pub device : DeviceNo
  pub op : Op

abbrev pub unfinished : List HostCommand → List Waiting
unfinished cs = map (λ c. record { ticket = c.ticket; device = c.device; op = c.op }) (filter (λ c. not c.done) cs)

-- what a host keeps: its ports, the lifetimes of frames, how many commands may fly or rest, after how long
-- a command is given up, its clock, the ticket given last, the tables of its commands, its devices with the
-- order of the commands there, the commands without an outcome, and the outcomes that wait to be taken
pub record Host : Type 0 where
  pub ports : List Mac
  pub life : Lifetimes
  pub room : ℕ
  pub dead : ℕ
  pub clock : ℕ
  pub last_ticket : ℕ
  pub flight : FlightTable
  pub devices : List Device
  pub pending : List Pending
  pub waiting : List Done

abbrev pub waiting_of : List Pending → List Waiting
waiting_of pending = map (λ p. record { ticket = p.ticket; device = p.device; op = p.op }) pending

-- the tickets ascend from above a number on
abbrev pub Ascends : ℕ → List HostCommand → Type 0
Ascends n [] = Unit {0}
Ascends n (c ∷ cs) = (n < c.ticket.0) × Ascends c.ticket.0 cs

-- each device, counted from a number on, has the commands that a later answer can go by; `life` is that of requests
abbrev pub RecallAll : ℕ → List HostCommand → ℕ → List Device → Type 0
RecallAll life cs n [] = Unit {0}
RecallAll life cs n (d ∷ devices) = (d.holds.life ≡ life) × RecallsEntered d.holds (entered_at n cs) × RecallAll life cs (n + 1) devices

-- the paths to a device go between the ports of the host and those of the device, and recall what happened
-- on them
pub record HasPaths (ports : List Mac) (happened : List PathEvent) (d : Device) : Type 0 where
  pub locals : d.paths.locals ≡ ports
  pub remotes : d.paths.remotes ≡ d.about.remotes.items
  pub recalls : RecallsPaths d.paths happened

-- what a host keeps is true of all that it did
pub record Matches (log : List Event) (host : Host) : Type 0 where
  pub time : host.clock ≡ clock log
  pub tickets : Ascends 0 (commands log)
  pub last : All (λ c. c.ticket.0 ≤ host.last_ticket) (commands log)
  pub attached : All (λ c. c.device.0 < length host.devices) (commands log)
  pub flew : All (λ c. c.done ≡ true → IsSome c.sends) (commands log)
  pub pending : waiting_of host.pending ≡ unfinished (commands log)
  pub rest : host.flight.rest ≡ rest_time host.life
  pub room : host.flight.room ≡ host.room
  pub dead : host.flight.dead ≡ host.dead
  pub sent : RecallsSent host.flight (sent_of (commands log))
  pub entered : RecallAll host.life.requests.0 (commands log) 0 host.devices
  pub paths : (n : ℕ) → IfSome (slice_get host.devices n) (HasPaths host.ports (path_log log n))

-- a command that waits has its device, an operation that a frame has room for, and room for its data
pub record IsSendable (devices : ℕ) (p : Pending) : Type 0 where
  pub inside : p.device.0 < devices
  pub spelled : CanSpell p.op
  pub room : length p.room ≡ data_len p.op

-- a device has a port, and the order of its commands isn't ahead of the host's clock and tickets
pub record IsAttached (now last : ℕ) (d : Device) : Type 0 where
  pub port : 0 < length d.about.remotes.items
  pub total : d.about.total ≤ 281474976710656
  pub max : d.about.max ≤ 17
  pub time : d.holds.latest ≤ now
  pub ticket : ForSome d.holds.greatest (λ greatest. greatest ≤ last)

-- each pending command has a higher ticket than those that stand before it
abbrev pub IsInOrder : List Pending → Type 0
IsInOrder [] = Unit {0}
IsInOrder (p ∷ pending) = All (λ later. p.ticket.0 < later.ticket.0) pending × IsInOrder pending

-- what is true of what a host keeps at all times; `capacity` is the room for outcomes
pub record IsConsistent (ports : List Mac) (now last : ℕ) (flight : FlightTable) (devices : List Device) (pending : List Pending) (waiting : List Done) (capacity : ℕ) : Type 0 where
  pub port : 0 < length ports
  pub differ : IsDistinct ports
  pub time : flight.latest ≤ now
  pub attached : All (IsAttached now last) devices
  pub ready : All (IsSendable (length devices)) pending
  pub order : IsInOrder pending
  pub given : All (λ p. p.ticket.0 ≤ last) pending
  pub reserved : length pending + length waiting ≤ capacity

abbrev pub new_host : List Mac → Lifetimes → ℕ → ℕ → Host
new_host ports life room dead = record {
  ports = ports;
  life = life;
  room = room;
  dead = dead;
  clock = 0;
  last_ticket = 0;
  flight = nothing_sent room life dead;
  devices = [];
  pending = [];
  waiting = [];
}

abbrev pub new_device : List Mac → TargetId → List Mac → ℕ → ℕ → FlushCommand → ℕ → Device
new_device ports id remotes total max flush requests = record {
  about = record { id = id; remotes = record { items = remotes }; total = total; max = max; flush = flush };
  holds = nothing_entered requests;
  paths = new_paths ports remotes;
}

abbrev pub with_device : Host → Device → Host
with_device host d = record host { devices = host.devices ++ d ∷ [] }

-- what only the attachment of a device changes
pub record IsSame (old new : Host) : Type 0 where
  pub ports : new.ports ≡ old.ports
  pub life : new.life ≡ old.life
  pub room : new.room ≡ old.room
  pub dead : new.dead ≡ old.dead
  pub devices : map (λ (d : Device). d.about) new.devices ≡ map (λ (d : Device). d.about) old.devices

-- the pending command at a place ends with an outcome, by a response if one came
pub record Closes (old : Host) (at : ℕ) (came : Option Arrival) (outcome : Outcome) (new : Host) : Type 0 where
  pub command : Pending
  pub there : slice_get old.pending at ≡ Some command
  pub after : new ≡ record old {
    flight = after_change old.flight command.ticket.0 after_finish old.flight.latest;
    devices = change_at command.device.0 (device_finished command.ticket came) old.devices;
    pending = remove old.pending at;
    waiting = old.waiting ++ record { ticket = command.ticket; outcome = outcome } ∷ [];
  }
