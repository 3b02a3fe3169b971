-- The commands of a host in a history.
use Rattle.std.specs.Prelude.{ℕ, suc, ◌+◌, Bool, false, not, ◌&&◌, ◌||◌, nat_eq, List, [], ◌∷◌, Option, Some, None, option_map, if◌then◌else◌, slice_get}
use Rattle.std.specs.Option.{option_map_or}
use Rattle.arrayvec.specs.ArrayVec.{ArrayVec}
use Rattle.aoe_base.specs.declared.address.Mac.{Mac}
use Rattle.aoe_base.specs.declared.address.TargetId.{TargetId}
use Rattle.aoe_base.specs.declared.counted.PathNo.{PathNo}
use Rattle.aoe_frame.specs.Header.{fields}
use Rattle.aoe_flight.specs.FlightTable.{no_commands}
use Rattle.aoe_hold.specs.Extents.{no_extent}
use Rattle.aoe_initiator.specs.declared.device.Attached.{Attached}
use Rattle.aoe_initiator.specs.declared.device.Device.{Device}
use Rattle.aoe_initiator.specs.declared.op.Op.{Op}
use Rattle.aoe_initiator.specs.declared.op.Op.TheVariants.{Write}
use Rattle.aoe_initiator.specs.declared.outcome.Outcome.{Outcome}
use Rattle.aoe_initiator.specs.declared.outcome.Outcome.TheVariants.{GaveUp}
use Rattle.aoe_initiator.specs.Host.{Host}
use Rattle.aoe_initiator.specs.HostLog.{commands, entered_at, Event, HostCommand}
use Rattle.aoe_initiator.specs.HostLog.Event.{Submits, Sends, Ends, Advances}
use Rattle.aoe_initiator.specs.Op.{span_of}
use Rattle.aoe_paths.specs.PathTable.{new_paths}
use Rattle.aoe_target.specs.Sectors.{in_span, value_in}
use Rattle.aoe_history.specs.declared.entry.Entry.{Entry}
use Rattle.aoe_history.specs.declared.entry.Entry.TheVariants.{Submitted, Sent, Took, Done, Ticked}
use Rattle.aoe_history.specs.Frames.{bytes_of, clock}
use Rattle.aoe_history.specs.Setup.{device_no, is_called, is_slot, path_no, HostSetup, Setup, SlotSetup}

-- the device that a command was submitted to, and what it asks
pub record Submission : Type 0 where
  pub dev : TargetId
  pub op : Op

-- an entry speaks of this command of the host
abbrev pub is_of : HostSetup → ℕ → ArrayVec ℕ → ℕ → Bool
is_of host c name ticket = is_called host name && nat_eq ticket c

-- what the host submitted with a ticket
abbrev pub submission : HostSetup → List Entry → ℕ → Option Submission
submission host [] c = None
submission host (Submitted name ticket dev op ∷ h) c =
    if is_of host c name ticket then Some (record { dev = dev; op = op }) else submission host h c
submission host (_ ∷ h) c = submission host h c

-- how many commands the host submitted: their tickets count up from 1
abbrev pub tickets : HostSetup → List Entry → ℕ
tickets host [] = 0
tickets host (Submitted name ticket dev op ∷ h) = if is_called host name then suc (tickets host h) else tickets host h
tickets host (_ ∷ h) = tickets host h

abbrev pub was_sent : HostSetup → List Entry → ℕ → Bool
was_sent host [] c = false
was_sent host (Sent name ticket number bytes ∷ h) c = is_of host c name ticket || was_sent host h c
was_sent host (_ ∷ h) c = was_sent host h c

-- THE HOST'S OWN ACCOUNT

-- the path between these ports of the host and of a command's device
abbrev pub path_between : HostSetup → Option Submission → Mac → Mac → PathNo
path_between host None local remote = record { 0 = 0 }
path_between host (Some x) local remote =
    option_map_or (λ (d : Attached). path_no host d local remote) (slice_get host.devices (device_no host x.dev).0) (record { 0 = 0 })

-- the path that a frame of a command goes on, and the one that a response to it comes on, by their addresses
abbrev pub path_of : HostSetup → Option Submission → List ℕ → PathNo
path_of host x f = path_between host x (fields f).src (fields f).dst

abbrev pub path_back : HostSetup → Option Submission → List ℕ → PathNo
path_back host x f = path_between host x (fields f).dst (fields f).src

-- the response that the host took last
abbrev pub last_response : HostSetup → List Entry → Option (List ℕ)
last_response host [] = None
last_response host (Took name frame stale ∷ h) = if is_called host name && not stale then Some (bytes_of h frame) else last_response host h
last_response host (_ ∷ h) = last_response host h

-- the path of the response that ended a command, where it wasn't given up
abbrev pub path_ended : HostSetup → List Entry → ℕ → Outcome → Option PathNo
path_ended host h ticket (GaveUp first now) = None
path_ended host h ticket outcome = option_map (path_back host (submission host h ticket)) (last_response host h)

-- what the host did, the latest first, in its own words
abbrev pub log_of : HostSetup → List Entry → List Event
log_of host [] = []
log_of host (Submitted name ticket dev op ∷ h) =
    let log = log_of host h in
    if is_called host name then Submits (record { 0 = ticket }) (device_no host dev) op ∷ log else log
log_of host (Sent name ticket number bytes ∷ h) =
    let log = log_of host h in
    if is_called host name then Sends (record { 0 = ticket }) (fields bytes).tag (path_of host (submission host h ticket) bytes) ∷ log else log
log_of host (Done name ticket outcome ∷ h) =
    let log = log_of host h in
    if is_called host name then Ends (record { 0 = ticket }) (path_ended host h ticket outcome) ∷ log else log
log_of host (Ticked ms ∷ h) = Advances (record { 0 = clock h + ms }) ∷ log_of host h
log_of host (_ ∷ h) = log_of host h

abbrev pub commands_of : HostSetup → List Entry → List HostCommand
commands_of host h = commands (log_of host h)

-- each device with all commands that were submitted to it, by the lifetime of requests; the devices are counted from a number on
abbrev pub devices_of : List Mac → ℕ → ℕ → List HostCommand → ℕ → List Attached → List Device
devices_of ports requests now cs n [] = []
devices_of ports requests now cs n (d ∷ ds) = record {
  about = d;
  holds = record { life = requests; latest = now; greatest = None; commands = entered_at n cs; ready = []; extent = no_extent };
  paths = new_paths ports d.remotes.items;
} ∷ devices_of ports requests now cs (n + 1) ds

-- the host as the host law speaks of it: with all that it did, and no table of its own
abbrev pub host_after : Setup → HostSetup → List Entry → Host
host_after s host h = record {
  ports = host.ports;
  life = s.life;
  room = host.room;
  dead = host.dead;
  clock = clock h;
  last_ticket = tickets host h;
  flight = no_commands host.room s.life host.dead;
  devices = devices_of host.ports s.life.requests.0 (clock h) (commands_of host h) 0 host.devices;
  pending = [];
  waiting = [];
}

-- the value that an operation gives to a sector of its device
abbrev pub op_writes : Op → ℕ → Option (List ℕ)
op_writes (Write at bytes) s = if in_span (span_of (Write at bytes)) s then Some (value_in (span_of (Write at bytes)) bytes s) else None
op_writes op s = None

-- the value that a command gives to a sector of a slot
abbrev pub writes : SlotSetup → Option Submission → ℕ → Option (List ℕ)
writes slot None s = None
writes slot (Some x) s = if is_slot slot x.dev then op_writes x.op s else None
