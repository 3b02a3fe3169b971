-- A host's commands, each by what the history says of it, and what a frame of one is.
use Rattle.std.specs.Prelude.{ℕ, zero, suc, ◌≡◌, ◌≤◌, ◌<◌, ◌-◌, Bool, true, false, not, ◌&&◌, ◌||◌, nat_eq, nat_lt, List, [], ◌∷◌, ◌++◌, map, drop, Option, Some, None, slice_get, if◌then◌else◌}
use Rattle.aoe_base.specs.declared.address.Mac.{Mac}
use Rattle.aoe_base.specs.declared.address.TargetId.{TargetId}
use Rattle.aoe_base.specs.declared.counted.DeviceNo.{DeviceNo}
use Rattle.aoe_base.specs.Addresses.{holds}
use Rattle.aoe_base.specs.declared.counted.Lifetimes.{Lifetimes}
use Rattle.aoe_ata.specs.Decision.{written}
use Rattle.aoe_ata.specs.declared.decision.AtaAnswer.{AtaAnswer}
use Rattle.aoe_flight.specs.Outstanding.{rest_time}
use Rattle.aoe_frame.specs.Header.{fields}
use Rattle.aoe_hold.specs.Commands.{conflict, is_gone}
use Rattle.aoe_initiator.specs.declared.device.Attached.{Attached}
use Rattle.aoe_initiator.specs.declared.op.Op.{Op}
use Rattle.aoe_initiator.specs.declared.op.Op.TheVariants.{Flush, Write}
use Rattle.aoe_initiator.specs.HostLog.{as_entered, one_more, path_log, HostCommand, Sending}
use Rattle.aoe_initiator.specs.Op.{span_of}
use Rattle.aoe_initiator.specs.Request.{request, CanSpell}
use Rattle.aoe_net.specs.Network.{SentFrame}
use Rattle.aoe_paths.specs.PathLog.{timeout_on}
use Rattle.aoe_target.specs.Verdict.{as_marked}
use Rattle.aoe_history.specs.declared.entry.Entry.{Entry}
use Rattle.aoe_history.specs.declared.entry.Entry.TheVariants.{Sent, Done}
use Rattle.aoe_history.specs.Commands.{is_of, log_of, path_of, submission, tickets, Submission}
use Rattle.aoe_history.specs.Conversation.{asked_for, HasSectors}
use Rattle.aoe_history.specs.Frames.{clock}
use Rattle.aoe_history.specs.Setup.{device_no, is_slot, HostSetup, SlotSetup}

-- the device that a command is for, and what it asks of it
abbrev pub device_in : HostSetup → Option Submission → DeviceNo
device_in host None = record { 0 = 0 }
device_in host (Some x) = device_no host x.dev

abbrev pub op_in : Option Submission → Op
op_in None = Flush
op_in (Some x) = x.op

-- how long a response to a frame is waited for, by what happened on its path to a command's device
abbrev pub timeout_at : HostSetup → List Entry → (c ticket : ℕ) → List ℕ → ℕ
timeout_at host h c ticket f = timeout_on (path_log (log_of host h) (device_in host (submission host h c)).0) (path_of host (submission host h ticket) f).0

-- the frames that were sent of a command: where a first one was sent, its tag and the times of the first and the last
abbrev pub sends_of : HostSetup → List Entry → ℕ → Option Sending
sends_of host [] c = None
sends_of host (Sent name ticket number f ∷ h) c =
    if is_of host c name ticket
    then Some (one_more (fields f).tag (record { 0 = clock h }) (path_of host (submission host h ticket) f) (timeout_at host h c ticket f) (sends_of host h c))
    else sends_of host h c
sends_of host (_ ∷ h) c = sends_of host h c

-- a command has its outcome
abbrev pub was_done : HostSetup → List Entry → ℕ → Bool
was_done host [] c = false
was_done host (Done name ticket outcome ∷ h) c = is_of host c name ticket || was_done host h c
was_done host (_ ∷ h) c = was_done host h c

-- a command in the host's own words
abbrev pub view : HostSetup → List Entry → ℕ → HostCommand
view host h c = record {
  ticket = record { 0 = c };
  device = device_in host (submission host h c);
  op = op_in (submission host h c);
  sends = sends_of host h c;
  done = was_done host h c;
}

-- the tickets from 1 up to a number
abbrev pub upto : ℕ → List ℕ
upto zero = []
upto (suc n) = upto n ++ suc n ∷ []

-- all commands of a host, in the order of their tickets
abbrev pub views : HostSetup → List Entry → List HostCommand
views host h = map (view host h) (upto (tickets host h))

-- a command that was sent flies, or it is done and rests: a response to its last frame can still arrive
abbrev pub is_live : Lifetimes → HostSetup → List Entry → ℕ → Sending → Bool
is_live life host h c x = not (was_done host h c && nat_lt (rest_time life) (clock h - x.last.0))

-- a command that was sent flies, or a frame of it can still arrive
abbrev pub is_active : Lifetimes → HostSetup → List Entry → ℕ → Sending → Bool
is_active life host h c x = not (was_done host h c && is_gone life.requests.0 (clock h) x.last.0)

-- two commands are for one device, and must keep their order there
abbrev pub in_conflict : HostSetup → List Entry → ℕ → ℕ → Bool
in_conflict host h d c = nat_eq (view host h d).device.0 (view host h c).device.0 && conflict (as_entered (view host h d)) (as_entered (view host h c))

-- a frame is the request of an operation: with a tag of four bytes, from a port of the host to a port of the device, a flush by the
-- device's flush command
pub record IsRequest (host : HostSetup) (device : DeviceNo) (op : Op) (tag : ℕ) (f : List ℕ) : Type 0 where
  pub about : Attached
  pub there : slice_get host.devices device.0 ≡ Some about
  pub local : Mac
  pub remote : Mac
  pub own : holds host.ports local ≡ true
  pub other : holds about.remotes.items remote ≡ true
  pub fits : tag < 4294967296
  pub is : f ≡ request about.flush op about.id remote local tag

-- a frame in the network was sent for a command of the host: it is its request, with the command's tag, and it was sent no later than
-- the command's last frame
pub record IsSentFor (host : HostSetup) (h : List Entry) (frame : SentFrame) : Type 0 where
  pub ticket : ℕ
  pub sending : Sending
  pub sent : sends_of host h ticket ≡ Some sending
  pub request : IsRequest host (view host h ticket).device (view host h ticket).op sending.tag frame.bytes
  pub time : frame.birth ≤ sending.last.0

-- a command asks this of a slot
pub record AsksAt (slot : SlotSetup) (o : Option Submission) (op : Op) : Type 0 where
  pub dev : TargetId
  pub is : o ≡ Some (record { dev = dev; op = op })
  pub slot_is : is_slot slot dev ≡ true

-- what a host asked: a frame has room for it, a read or a write has sectors, and it is for a device of the host's
pub record IsAskable (host : HostSetup) (x : Submission) : Type 0 where
  pub can : CanSpell x.op
  pub sectors : HasSectors x.op
  pub about : Attached
  pub place : slice_get host.devices (device_no host x.dev).0 ≡ Some about
  pub id : about.id ≡ x.dev

-- a slot that takes a frame as an ATA command is the one that the frame's command is for, and is told what the command asks, with the
-- data of a write, which a read-only one aborts
pub record IsUnderstood (slot : SlotSetup) (read_only : Bool) (x : Submission) (f : List ℕ) (answer : AtaAnswer) : Type 0 where
  pub slot_is : is_slot slot x.dev ≡ true
  pub answer_is : answer ≡ as_marked read_only (asked_for slot.station.sectors x.op)
  pub bytes_are : (at : ℕ) (bytes : List ℕ) → x.op ≡ Write at bytes → written (drop 24 f) (span_of (Write at bytes)) ≡ bytes
