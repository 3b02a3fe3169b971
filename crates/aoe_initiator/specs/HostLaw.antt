-- The host law: what may be sent next, and which response ends a command.
use Rattle.std.specs.Prelude.{ℕ, ◌≡◌, ◌+◌, ◌-◌, ◌*◌, ◌^◌, ◌<◌, ◌≤◌, ◌⊎◌, Bool, true, false, is_some, min, not, ◌&&◌, ◌||◌, ◌==◌, nat_eq, nat_lt, nat_le, List, [], ◌∷◌, ◌++◌, length, drop, Option, Some, None, option_map, slice_get, if◌then◌else◌, All, Contains}
use Rattle.std.specs.List.{count_by, list_any, sum_by}
use Rattle.std.specs.Option.{option_and_then, option_map_or}
use Rattle.aoe_base.specs.declared.address.Mac.{Mac}
use Rattle.aoe_base.specs.declared.address.TargetId.{TargetId}
use Rattle.aoe_base.specs.declared.counted.DeviceNo.{DeviceNo}
use Rattle.aoe_base.specs.declared.counted.Millis.{Millis}
use Rattle.aoe_base.specs.declared.counted.PathNo.{PathNo}
use Rattle.aoe_base.specs.Addresses.{holds}
use Rattle.aoe_frame.specs.declared.header.Header.{Header}
use Rattle.aoe_frame.specs.Header.{head}
use Rattle.aoe_hold.specs.Commands.{is_clear, unsent_count}
use Rattle.aoe_flight.specs.declared.outstanding.Outstanding.{Outstanding}
use Rattle.aoe_flight.specs.Outstanding.{is_due, is_expired, is_taken, live, lower, precedes, rest_time, IsFirst}
use Rattle.aoe_paths.specs.PathLog.{next_of}
use Rattle.aoe_paths.specs.PathTable.{pair_at}
use Rattle.aoe_initiator.specs.declared.device.Attached.{Attached}
use Rattle.aoe_initiator.specs.declared.device.Device.{Device}
use Rattle.aoe_initiator.specs.declared.op.Op.{Op}
use Rattle.aoe_initiator.specs.declared.op.Op.TheVariants.{Read, Write, Flush, Identify, Config, Masks, Reserve}
use Rattle.aoe_initiator.specs.declared.outcome.Done.{Done}
use Rattle.aoe_initiator.specs.declared.outcome.Outcome.TheVariants.{GaveUp}
use Rattle.aoe_initiator.specs.declared.refusal.AttachRefusal.{AttachRefusal}
use Rattle.aoe_initiator.specs.declared.refusal.AttachRefusal.TheVariants.{Already, NoPort}
use Rattle.aoe_initiator.specs.declared.refusal.SubmitRefusal.{SubmitRefusal}
use Rattle.aoe_initiator.specs.declared.refusal.SubmitRefusal.TheVariants.{OutOfRange, TooLong, Backlog, Empty}
use Rattle.aoe_initiator.specs.declared.response.Answer.{Answer}
use Rattle.aoe_initiator.specs.declared.step.InFlight.{InFlight}
use Rattle.aoe_initiator.specs.declared.step.Sent.{Sent}
use Rattle.aoe_initiator.specs.declared.step.Taken.{Taken}
use Rattle.aoe_initiator.specs.declared.step.Taken.TheVariants.{Finished, Stale}
use Rattle.aoe_initiator.specs.Host.{Host, Matches}
use Rattle.aoe_initiator.specs.HostLog.{as_entered, commands, entered_at, missed_by, path_log, sent_of, Event, HostCommand, Sending}
use Rattle.aoe_initiator.specs.HostLog.Event.{Ends}
use Rattle.aoe_initiator.specs.Op.{command_of, span_of}
use Rattle.aoe_initiator.specs.Request.{request}
use Rattle.aoe_initiator.specs.Response.{answer, has_flag, outcome_of}

-- a command may be sent for the first time, by all commands that were submitted to its device; `life` is that of requests
abbrev pub is_clear_at : ℕ → ℕ → List HostCommand → HostCommand → Bool
is_clear_at life now cs c = is_clear life now (entered_at c.device.0 cs) (as_entered c)

-- the frame of an operation with a tag, from the port of the host to that of the device that a path joins; a flush is by the device's
-- flush command
abbrev pub spelled_for : Host → Op → DeviceNo → PathNo → ℕ → Option (List ℕ)
spelled_for host op device path tag =
    option_and_then (λ (d : Device). option_map (λ pair. request d.about.flush op d.about.id pair.1 pair.0 tag)
    (pair_at host.ports d.about.remotes.items path.0)) (slice_get host.devices device.0)

abbrev pub spelled : Host → HostCommand → PathNo → ℕ → Option (List ℕ)
spelled host c path tag = spelled_for host c.op c.device path tag

-- how many paths go to a device
abbrev pub paths_to : Host → ℕ → ℕ
paths_to host n = option_map_or (λ (d : Device). length host.ports * length d.about.remotes.items) (slice_get host.devices n) 0

-- a frame is sent on the path that is next to its command's device; a repeat marks the path of the frame
-- before it first
pub record IsOnNextPath (host : Host) (log : List Event) (sent : Sent) : Type 0 where
  pub command : HostCommand
  pub there : Contains (commands log) command
  pub ticket : command.ticket ≡ sent.ticket
  pub next : sent.path.0 ≡ next_of (paths_to host command.device.0) (missed_by command.sends (path_log log command.device.0))

-- a repeat: of the flying commands that waited long enough the one that was due first, with its own tag
pub record IsRepeat (host : Host) (cs : List HostCommand) (sent : Sent) : Type 0 where
  pub command : Outstanding
  pub first_due : IsFirst (is_due host.clock) precedes (sent_of cs) command
  pub ticket : command.ticket ≡ sent.ticket
  pub tag : command.flying.tag ≡ sent.tag

-- a first send: nothing is due, fewer than `room` fly or rest, it is the clear command with the lowest
-- ticket, and no flying or resting command has its tag
pub record IsStart (host : Host) (cs : List HostCommand) (sent : Sent) : Type 0 where
  pub nothing_due : All (λ o. is_due host.clock o ≡ false) (sent_of cs)
  pub room : length (live (rest_time host.life) host.clock (sent_of cs)) < host.room
  pub command : HostCommand
  pub there : Contains cs command
  pub ticket : command.ticket ≡ sent.ticket
  pub clear : is_clear_at host.life.requests.0 host.clock cs command ≡ true
  pub lowest : All (λ other. is_clear_at host.life.requests.0 host.clock cs other ≡ true → sent.ticket.0 ≤ other.ticket.0) cs
  pub free : is_taken (live (rest_time host.life) host.clock (sent_of cs)) sent.tag ≡ false

-- what may be sent next is sent
abbrev pub IsNextBy : Bool → Host → List HostCommand → Sent → Type 0
IsNextBy true host cs sent = IsRepeat host cs sent
IsNextBy false host cs sent = IsStart host cs sent

abbrev pub IsNext : Host → List HostCommand → Sent → Type 0
IsNext host cs sent = IsNextBy sent.again host cs sent

-- nothing may be sent: nothing is due, and `room` commands fly or rest or no command is clear
pub record IsQuiet (host : Host) (cs : List HostCommand) : Type 0 where
  pub nothing_due : All (λ o. is_due host.clock o ≡ false) (sent_of cs)
  pub nothing_clear : (host.room ≤ length (live (rest_time host.life) host.clock (sent_of cs))) ⊎ All (λ c. is_clear_at host.life.requests.0 host.clock cs c ≡ false) cs

-- at a time there is something to do: a command is due or expired, or one may be sent for the first time
abbrev pub has_work : Host → List HostCommand → ℕ → Bool
has_work host cs now =
    list_any (is_due now) (sent_of cs) || list_any (is_expired host.dead now) (sent_of cs)
    || (nat_lt (length (live (rest_time host.life) now (sent_of cs))) host.room && list_any (is_clear_at host.life.requests.0 now cs) cs)

-- the first time from the clock on at which there is something to do, if a clock of 64 bits comes to one
abbrev pub IsNextTime : Host → List HostCommand → Option Millis → Type 0
IsNextTime host cs (Some time) =
    (host.clock ≤ time.0) × (has_work host cs time.0 ≡ true) × ((now : ℕ) → host.clock ≤ now → now < time.0 → has_work host cs now ≡ false)
IsNextTime host cs None = (now : ℕ) → host.clock ≤ now → now < 2 ^ 64 → has_work host cs now ≡ false

-- a command flies: it was sent and has no outcome
abbrev pub is_flying : HostCommand → Bool
is_flying c = is_some c.sends && not c.done

-- the sectors of a command that flies
abbrev pub flying_sectors : HostCommand → ℕ
flying_sectors c = if is_flying c then (span_of c.op).count else 0

-- how many commands fly, and their sectors
abbrev pub flying_of : List HostCommand → InFlight
flying_of cs = record { commands = count_by is_flying cs; sectors = min (sum_by flying_sectors cs) (2 ^ 64 - 1) }

-- how many commands a device holds unsent
abbrev pub held_at : Host → ℕ → ℕ
held_at host n = option_map_or (λ (d : Device). unsent_count d.holds.commands) (slice_get host.devices n) 0

abbrev pub same_id : TargetId → TargetId → Bool
same_id a b = nat_eq a.major b.major && nat_eq a.minor b.minor

-- a version 1 response to a port of the host
abbrev pub is_response_to : Host → Header → Bool
is_response_to host h = nat_eq h.version 1 && has_flag h.flags 0x8 && holds host.ports h.dst

-- it comes from a port of the device and bears its name and the operation's command
abbrev pub is_from : Option Device → Op → Header → Bool
is_from None op h = false
is_from (Some d) op h = holds d.about.remotes.items h.src && same_id h.id d.about.id && nat_eq h.command (command_of op)

abbrev pub has_tag : ℕ → Option Sending → Bool
has_tag tag None = false
has_tag tag (Some s) = nat_eq s.tag tag

-- the header is that of a response to a command that flies
abbrev pub is_answered : Host → HostCommand → Header → Bool
is_answered host c h = is_response_to host h && (not c.done && has_tag h.tag c.sends) && is_from (slice_get host.devices c.device.0) c.op h

-- what a frame answers to a command; nothing where it isn't a well-formed response to it
abbrev pub answer_to : Host → HostCommand → List ℕ → Option Answer
answer_to host c frame = option_and_then (λ h. if is_answered host c h then answer c.op h (drop 24 frame) else None) (head frame)

-- a command that is given up
abbrev pub given_up : ℕ → Outstanding → Done
given_up now o = record { ticket = o.ticket; outcome = GaveUp o.flying.first (record { 0 = now }) }

-- the log after commands ended, the latest first
abbrev pub ended : List Done → List Event → List Event
ended [] log = log
ended (d ∷ dones) log = Ends d.ticket None ∷ ended dones log

-- flying commands were given up one after another, the lowest ticket first; the latest stands first
abbrev pub GaveUpInTurn : ℕ → ℕ → List Event → List Done → Type 0
GaveUpInTurn dead now log [] = Unit {0}
GaveUpInTurn dead now log (d ∷ dones) =
    GaveUpInTurn dead now log dones
    × ((o : Outstanding) × IsFirst (is_expired dead now) lower (sent_of (commands (ended dones log))) o × (d ≡ given_up now o))

-- the most commands that are held unsent at a device
abbrev pub most_held : ℕ
most_held = 65536

-- why an operation on sectors is refused
abbrev pub span_refusal : Attached → ℕ → ℕ → Option SubmitRefusal
span_refusal about at count =
    if count == 0 then Some Empty
    else if nat_lt about.max count then Some (TooLong about.max)
    else if nat_lt about.total (at + count) then Some OutOfRange
    else None

abbrev pub op_refusal : Attached → Op → Option SubmitRefusal
op_refusal about (Read span) = span_refusal about span.at span.count
op_refusal about (Write at bytes) = span_refusal about at (span_of (Write at bytes)).count
op_refusal about Flush = None
op_refusal about Identify = None
op_refusal about (Config ccmd text) = None
op_refusal about (Masks edit dirs) = None
op_refusal about (Reserve rcmd list) = None

-- and where the operation isn't refused, whether too many commands wait for their first send
abbrev pub or_backlog : ℕ → Option SubmitRefusal → Option SubmitRefusal
or_backlog held (Some refusal) = Some refusal
or_backlog held None = if nat_le most_held held then Some (Backlog held) else None

abbrev pub submit_refusal : Host → ℕ → Op → Option SubmitRefusal
submit_refusal host n op =
    or_backlog (held_at host n) (option_and_then (λ (d : Device). op_refusal d.about op) (slice_get host.devices n))

-- a device has the name
abbrev pub has_id : TargetId → List Device → Bool
has_id id devices = list_any (λ (d : Device). same_id d.about.id id) devices

-- why a device isn't attached
abbrev pub attach_refusal : TargetId → List Mac → List Device → Option AttachRefusal
attach_refusal id remotes devices =
    if has_id id devices then Some Already
    else if length remotes == 0 then Some NoPort
    else None

-- the frame is that of the command that was sent
pub record IsFrameOf (host : Host) (cs : List HostCommand) (sent : Sent) (frame : List ℕ) : Type 0 where
  pub command : HostCommand
  pub there : Contains cs command
  pub ticket : command.ticket ≡ sent.ticket
  pub bytes : spelled host command sent.path sent.tag ≡ Some frame

-- a frame came on the path from a port of a command's device to a port of the host
pub record CameOn (host : Host) (c : HostCommand) (frame : List ℕ) (path : PathNo) : Type 0 where
  pub header : Header
  pub read : head frame ≡ Some header
  pub device : Device
  pub there : slice_get host.devices c.device.0 ≡ Some device
  pub pair : pair_at host.ports device.about.remotes.items path.0 ≡ Some (header.dst, header.src)

-- a frame ended a command exactly where it answers one that flies, with just the outcome that it says
abbrev pub Takes : Host → List ℕ → List Event → Taken → Host → Type 0
Takes old frame log (Finished ticket) new =
    (c : HostCommand) × (answer : Answer) × (path : PathNo) × Contains (commands log) c × (c.ticket ≡ ticket)
    × (answer_to old c frame ≡ Some answer) × CameOn old c frame path
    × (new.waiting ≡ old.waiting ++ record { ticket = ticket; outcome = outcome_of answer (drop 24 frame) } ∷ []) × Matches (Ends ticket (Some path) ∷ log) new
Takes old frame log Stale new = All (λ c. answer_to old c frame ≡ None) (commands log) × (new ≡ old)
