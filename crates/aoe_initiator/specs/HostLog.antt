-- What a host did, the newest first, and the commands that came of it.
use Rattle.std.specs.Prelude.{ℕ, ◌+◌, ◌-◌, ◌*◌, ◌^◌, min, max, Bool, true, false, List, [], ◌∷◌, ◌++◌, map, nat_eq, Option, Some, None, option_map, if◌then◌else◌}
use Rattle.std.specs.List.{filter, filter_map, find}
use Rattle.aoe_base.specs.declared.counted.DeviceNo.{DeviceNo}
use Rattle.aoe_base.specs.declared.counted.Millis.{Millis}
use Rattle.aoe_base.specs.declared.counted.PathNo.{PathNo}
use Rattle.aoe_base.specs.declared.counted.Ticket.{Ticket}
use Rattle.aoe_hold.specs.declared.command.Command.{Command}
use Rattle.aoe_hold.specs.declared.command.Stage.{Stage}
use Rattle.aoe_hold.specs.declared.command.Stage.TheVariants.{Unsent, Flying, Finished}
use Rattle.aoe_flight.specs.declared.outstanding.Outstanding.{Outstanding}
use Rattle.aoe_paths.specs.PathLog.{timeout_on, PathEvent}
use Rattle.aoe_paths.specs.PathLog.PathEvent.{Answered, Chosen, Missed}
use Rattle.aoe_initiator.specs.declared.op.Op.{Op}
use Rattle.aoe_initiator.specs.Op.{kind_of, span_of}

-- a command was submitted to a device; a frame of a command was sent, with a tag on a path; a command
-- has its outcome, by a response that came on a path or, without a path, because it was given up; the
-- clock went on
pub data Event : Type 0 where
  Submits : Ticket → DeviceNo → Op → Event
  Sends : Ticket → (tag : ℕ) → PathNo → Event
  Ends : Ticket → Option PathNo → Event
  Advances : Millis → Event

-- the host's time: it never falls
abbrev pub clock : List Event → ℕ
clock [] = 0
clock (Submits ticket device op ∷ log) = clock log
clock (Sends ticket tag path ∷ log) = clock log
clock (Ends ticket path ∷ log) = clock log
clock (Advances now ∷ log) = max (clock log) now.0

-- the frames that were sent of a command: their tag, the times of the first and of the last, the path of
-- the last and how long its response is waited for, and how many there were
pub record Sending : Type 0 where
  pub tag : ℕ
  pub first : Millis
  pub last : Millis
  pub path : PathNo
  pub wait : Millis
  pub count : ℕ

-- a command of the host: what was sent of it, and whether it has its outcome
pub record HostCommand : Type 0 where
  pub ticket : Ticket
  pub device : DeviceNo
  pub op : Op
  pub sends : Option Sending
  pub done : Bool

abbrev pub submitted : Ticket → DeviceNo → Op → HostCommand
submitted ticket device op = record { ticket = ticket; device = device; op = op; sends = None; done = false }

-- how long the response to the n-th frame of a command is waited for: as long as an answer on its path,
-- and twice as long with each repeat, up to a minute
abbrev pub wait_of : ℕ → ℕ → ℕ
wait_of timeout n = min 60000 (timeout * 2 ^ (n - 1))

-- one more frame was sent, on a path with a timeout; a repeat has the tag of the first
abbrev pub one_more : ℕ → Millis → PathNo → ℕ → Option Sending → Sending
one_more tag now path timeout None = record {
  tag = tag;
  first = now;
  last = now;
  path = path;
  wait = record { 0 = wait_of timeout 1 };
  count = 1;
}
one_more tag now path timeout (Some s) = record {
  tag = s.tag;
  first = s.first;
  last = now;
  path = path;
  wait = record { 0 = wait_of timeout (s.count + 1) };
  count = s.count + 1;
}

-- the path has a timeout for each device
abbrev pub after_send : ℕ → Millis → PathNo → (ℕ → ℕ) → HostCommand → HostCommand
after_send tag now path timeouts c = record c { sends = Some (one_more tag now path (timeouts c.device.0) c.sends) }

abbrev pub after_end : HostCommand → HostCommand
after_end c = record c { done = true }

-- a change of the command with a ticket
abbrev pub at_ticket : Ticket → (HostCommand → HostCommand) → HostCommand → HostCommand
at_ticket ticket change c = if nat_eq c.ticket.0 ticket.0 then change c else c

abbrev pub with_ticket : Ticket → List HostCommand → Option HostCommand
with_ticket ticket cs = find (λ c. nat_eq c.ticket.0 ticket.0) cs

abbrev pub is_at : ℕ → HostCommand → Bool
is_at device c = nat_eq c.device.0 device

-- a repeat marks the path of the frame before it
abbrev pub missed_by : Option Sending → List PathEvent → List PathEvent
missed_by None log = log
missed_by (Some s) log = Missed s.path.0 ∷ log

-- what a frame of a command adds to what happened on the paths to a device
abbrev pub after_frame : ℕ → PathNo → Option HostCommand → List PathEvent → List PathEvent
after_frame n path None log = log
after_frame n path (Some c) log = if is_at n c then Chosen path.0 ∷ missed_by c.sends log else log

-- the round trip of a response, which is known where one frame was sent
abbrev pub trip_of : ℕ → Option Sending → Option Millis
trip_of now None = None
trip_of now (Some s) = if nat_eq s.count 1 then Some (record { 0 = now - s.first.0 }) else None

-- what the end of a command adds, by a response that came on a path
abbrev pub after_response : ℕ → Option PathNo → ℕ → Option HostCommand → List PathEvent → List PathEvent
after_response n None now c log = log
after_response n (Some path) now None log = log
after_response n (Some path) now (Some c) log = if is_at n c then Answered path.0 (trip_of now c.sends) ∷ log else log

abbrev mutual
  -- all commands that were submitted, in the order of their tickets
  pub commands : List Event → List HostCommand
  commands [] = []
  commands (Submits ticket device op ∷ log) = commands log ++ submitted ticket device op ∷ []
  commands (Sends ticket tag path ∷ log) =
      map (at_ticket ticket (after_send tag (record { 0 = clock log }) path (λ n. timeout_on (path_log log n) path.0))) (commands log)
  commands (Ends ticket path ∷ log) = map (at_ticket ticket after_end) (commands log)
  commands (Advances now ∷ log) = commands log

  -- what happened on the paths to a device
  pub path_log : List Event → ℕ → List PathEvent
  path_log [] n = []
  path_log (Submits ticket device op ∷ log) n = path_log log n
  path_log (Sends ticket tag path ∷ log) n = after_frame n path (with_ticket ticket (commands log)) (path_log log n)
  path_log (Ends ticket path ∷ log) n = after_response n path (clock log) (with_ticket ticket (commands log)) (path_log log n)
  path_log (Advances now ∷ log) n = path_log log n

-- a command that was sent, in the words of tags and deadlines
abbrev pub outstanding : HostCommand → Sending → Outstanding
outstanding c s = record {
  ticket = c.ticket;
  flying = record { tag = s.tag; first = s.first; last = s.last; path = s.path; sends = min s.count 32 };
  wait = s.wait;
  finished = c.done;
}

abbrev pub as_sent : HostCommand → Option Outstanding
as_sent c = option_map (outstanding c) c.sends

-- all commands that were sent
abbrev pub sent_of : List HostCommand → List Outstanding
sent_of cs = filter_map as_sent cs

abbrev pub stage : Option Sending → Bool → Stage
stage None done = Unsent
stage (Some s) false = Flying s.last
stage (Some s) true = Finished s.last

-- a command in the words of the order of commands at a device
abbrev pub as_entered : HostCommand → Command
as_entered c = record { ticket = c.ticket; kind = kind_of c.op; span = span_of c.op; stage = stage c.sends c.done }

-- all commands that were submitted to a device
abbrev pub entered_at : ℕ → List HostCommand → List Command
entered_at device cs = map as_entered (filter (is_at device) cs)
