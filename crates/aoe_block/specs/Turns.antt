-- What one host does at one device over a link, and what it hears there, in the words of the host law.
use Rattle.std.specs.Prelude.{ℕ, ◌≡◌, ◌+◌, ◌<◌, ◌≤◌, Bool, false, List, [], ◌∷◌, length, drop, Option, Some, None, All, Contains, IfSome, is_none}
use Rattle.std.specs.List.{count_by}
use Rattle.aoe_base.specs.declared.address.Mac.{Mac}
use Rattle.aoe_base.specs.declared.address.TargetId.{TargetId}
use Rattle.aoe_base.specs.declared.counted.DeviceNo.{DeviceNo}
use Rattle.aoe_base.specs.declared.counted.Lifetimes.{Lifetimes}
use Rattle.aoe_base.specs.declared.counted.PathNo.{PathNo}
use Rattle.aoe_base.specs.declared.counted.Ticket.{Ticket}
use Rattle.aoe_base.specs.Sizes.{most_room}
use Rattle.aoe_flight.specs.Outstanding.{is_expired}
use Rattle.aoe_initiator.specs.declared.op.FlushCommand.{FlushCommand}
use Rattle.aoe_initiator.specs.declared.outcome.Done.{Done}
use Rattle.aoe_initiator.specs.declared.outcome.Outcome.{Outcome}
use Rattle.aoe_initiator.specs.declared.response.Answer.{Answer}
use Rattle.aoe_initiator.specs.declared.step.Sent.{Sent}
use Rattle.aoe_initiator.specs.Defaults.{default_dead}
use Rattle.aoe_initiator.specs.Host.{new_device, new_host, with_device, Host, IsSame}
use Rattle.aoe_initiator.specs.HostLaw.{answer_to, ended as after_ends, CameOn, GaveUpInTurn, IsFrameOf, IsNext, IsOnNextPath, IsQuiet}
use Rattle.aoe_initiator.specs.HostLog.{clock, commands, sent_of, Event, HostCommand}
use Rattle.aoe_initiator.specs.HostLog.Event.{Advances, Ends, Sends}
use Rattle.aoe_initiator.specs.Response.{outcome_of}
use Rattle.aoe_io.specs.Link.{Turn, came, quiet, ended}

-- the one device of such a host
abbrev pub the_device : DeviceNo
the_device = record { 0 = 0 }

-- a host with one port and these lifetimes, with the most room, that is attached to a device at one port, and did nothing yet
abbrev pub host_of : Mac → Lifetimes → TargetId → Mac → ℕ → ℕ → FlushCommand → Host
host_of port life id remote total max flush =
    with_device (new_host (port ∷ []) life most_room default_dead)
    (new_device (port ∷ []) id (remote ∷ []) total max flush life.requests.0)

-- a frame that the host gave to be sent
pub record Outgoing : Type 0 where
  pub sent : Sent
  pub frame : List ℕ

-- a command that a frame ended: the path on which it came, and what it says
pub record Heard : Type 0 where
  pub ticket : Ticket
  pub path : PathNo
  pub outcome : Outcome

-- what the host did: its clock went on and commands were given up, the latest first; frames were sent, the latest first; a frame ended a
-- command or none
abbrev pub after_tick : ℕ → List Done → List Event → List Event
after_tick now gave_up log = after_ends gave_up (Advances (record { 0 = now }) ∷ log)

abbrev pub after_frames : List Outgoing → List Event → List Event
after_frames [] log = log
after_frames (o ∷ earlier) log = Sends o.sent.ticket o.sent.tag o.sent.path ∷ after_frames earlier log

abbrev pub after_heard : Option Heard → List Event → List Event
after_heard None log = log
after_heard (Some h) log = Ends h.ticket (Some h.path) ∷ log

-- the outcome that a frame leaves to be taken
abbrev pub told_by : Option Heard → List Done
told_by None = []
told_by (Some h) = record { ticket = h.ticket; outcome = h.outcome } ∷ []

-- how many of the latest consecutive turns ended no command, by that number before the last one
abbrev pub quiet_by : Option Heard → ℕ → ℕ
quiet_by None n = n + 1
quiet_by (Some h) n = 0

-- what never changes of a host, at the time of its log
pub record IsAt (base : Host) (log : List Event) (host : Host) : Type 0 where
  pub same : IsSame base host
  pub time : host.clock ≡ clock log

-- the commands that fly for too long are given up, and no others
pub record GivesUp (base : Host) (log : List Event) (now : ℕ) (gave_up : List Done) : Type 0 where
  pub in_turn : GaveUpInTurn base.dead (clock (Advances (record { 0 = now }) ∷ log)) (Advances (record { 0 = now }) ∷ log) gave_up
  pub all : All (λ o. is_expired base.dead (clock (Advances (record { 0 = now }) ∷ log)) o ≡ false) (sent_of (commands (after_tick now gave_up log)))

-- the most commands of which each has a tag of its own, of 32 bits, that isn't 0 (AoEr11, "Tag")
abbrev pub most_tagged : ℕ
most_tagged = 4294967295

-- a frame is what may be sent next; with no more commands than there are tags it has one from 1 to their number
pub record MaySend (base : Host) (log : List Event) (o : Outgoing) : Type 0 where
  pub host : Host
  pub at : IsAt base log host
  pub next : IsNext host (commands log) o.sent
  pub frame : IsFrameOf host (commands log) o.sent o.frame
  pub path : IsOnNextPath host log o.sent
  pub tag : length (commands log) ≤ most_tagged → (0 < o.sent.tag) × (o.sent.tag ≤ length (commands log))

abbrev pub AreSent : Host → List Event → List Outgoing → Type 0
AreSent base log [] = Unit {0}
AreSent base log (o ∷ earlier) = AreSent base log earlier × MaySend base (after_frames earlier log) o

-- nothing more may be sent
pub record IsSilent (base : Host) (log : List Event) : Type 0 where
  pub host : Host
  pub at : IsAt base log host
  pub quiet : IsQuiet host (commands log)

-- a frame ends a command that flies, with what it says
pub record IsAnswer (base : Host) (log : List Event) (frame : List ℕ) (h : Heard) : Type 0 where
  pub host : Host
  pub at : IsAt base log host
  pub command : HostCommand
  pub answer : Answer
  pub there : Contains (commands log) command
  pub ticket : command.ticket ≡ h.ticket
  pub answers : answer_to host command frame ≡ Some answer
  pub came : CameOn host command frame h.path
  pub says : h.outcome ≡ outcome_of answer (drop 24 frame)

-- a frame ends none
pub record IsStale (base : Host) (log : List Event) (frame : List ℕ) : Type 0 where
  pub host : Host
  pub at : IsAt base log host
  pub none_answered : All (λ c. answer_to host c frame ≡ None) (commands log)

-- what a turn of the link brings ends this command, or none
abbrev pub Hears : Host → List Event → Turn → Option Heard → Type 0
Hears base log (came frame) None = IsStale base log frame
Hears base log (came frame) (Some h) = IsAnswer base log frame h
Hears base log quiet None = Unit {0}
Hears base log quiet (Some h) = ⊥
Hears base log ended None = Unit {0}
Hears base log ended (Some h) = ⊥

abbrev pub is_unsent : HostCommand → Bool
is_unsent c = is_none c.sends

-- where a command was sent, its tag is from 1 to the last one
abbrev pub HasTag : ℕ → HostCommand → Type 0
HasTag last c = IfSome c.sends (λ s. (0 < s.tag) × (s.tag ≤ last))

-- the tags that were given, of which this is the last, to no more commands than there are tags: there are no more of them than of commands
-- that were sent
pub record HasTags (last : ℕ) (cs : List HostCommand) : Type 0 where
  pub few : last + count_by is_unsent cs ≤ length cs
  pub within : All (HasTag last) cs

abbrev pub AreTagged : ℕ → List Event → Type 0
AreTagged last log = length (commands log) ≤ most_tagged → HasTags last (commands log)
