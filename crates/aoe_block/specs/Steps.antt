-- The account of a job that one host does at one device over a link: its steps, the latest first, and what they come to. A job has steps of
-- its own, which neither link nor clock sees.
use Rattle.std.specs.Prelude.{ℕ, suc, ◌≡◌, ◌+◌, ◌<◌, ◌≤◌, ◌⊎◌, Bool, true, false, not, List, [], ◌∷◌, ◌++◌, Option, All, IfSome}
use Rattle.std.specs.List.{count_by}
use Rattle.aoe_base.specs.declared.counted.Ticket.{Ticket}
use Rattle.aoe_initiator.specs.declared.op.Op.{Op}
use Rattle.aoe_initiator.specs.declared.outcome.Done.{Done}
use Rattle.aoe_initiator.specs.declared.outcome.Outcome.{Outcome}
use Rattle.aoe_initiator.specs.declared.outcome.Outcome.TheVariants as outcome
use Rattle.aoe_initiator.specs.Host.{Host, IsSame, Matches}
use Rattle.aoe_initiator.specs.HostLog.{commands, Event, HostCommand}
use Rattle.aoe_initiator.specs.HostLog.Event.{Sends, Submits}
use Rattle.aoe_io.specs.Link.{Added, Turn, Turned}
use Rattle.aoe_block.specs.Turns.{after_heard, after_tick, quiet_by, the_device, told_by, AreTagged, GivesUp, Heard, Hears, IsSilent, MaySend, Outgoing}

-- A step: the clock answers, and commands that nobody answered for too long are given up, the latest first; a command is submitted; the job
-- does something of its own; a frame is sent; a turn of the link brings a frame or nothing, and may end a command.
pub data Step (A : Type 0) : Type 0 where
  ticks : (answer : ℕ) → List Done → Step A
  submits : Op → Step A
  own : A → Step A
  sends : Outgoing → Step A
  hears : Turn → Option Heard → Step A

-- how many commands were submitted
abbrev pub asked : {A : Type 0} → List (Step A) → ℕ
asked [] = 0
asked (ticks answer gave_up ∷ steps) = asked steps
asked (submits o ∷ steps) = suc (asked steps)
asked (own a ∷ steps) = asked steps
asked (sends o ∷ steps) = asked steps
asked (hears turn heard ∷ steps) = asked steps

-- what they ask for, the latest first
abbrev pub ops : {A : Type 0} → List (Step A) → List Op
ops [] = []
ops (ticks answer gave_up ∷ steps) = ops steps
ops (submits o ∷ steps) = o ∷ ops steps
ops (own a ∷ steps) = ops steps
ops (sends o ∷ steps) = ops steps
ops (hears turn heard ∷ steps) = ops steps

-- the job's own steps, the latest first
abbrev pub owns : {A : Type 0} → List (Step A) → List A
owns [] = []
owns (ticks answer gave_up ∷ steps) = owns steps
owns (submits o ∷ steps) = owns steps
owns (own a ∷ steps) = a ∷ owns steps
owns (sends o ∷ steps) = owns steps
owns (hears turn heard ∷ steps) = owns steps

-- the outcomes, the latest first
abbrev pub outcomes : {A : Type 0} → List (Step A) → List Done
outcomes [] = []
outcomes (ticks answer gave_up ∷ steps) = gave_up ++ outcomes steps
outcomes (submits o ∷ steps) = outcomes steps
outcomes (own a ∷ steps) = outcomes steps
outcomes (sends o ∷ steps) = outcomes steps
outcomes (hears turn heard ∷ steps) = told_by heard ++ outcomes steps

-- what the link brought, the frames that were sent, and the clock's answers
abbrev pub turns_of : {A : Type 0} → List (Step A) → List Turn
turns_of [] = []
turns_of (ticks answer gave_up ∷ steps) = turns_of steps
turns_of (submits o ∷ steps) = turns_of steps
turns_of (own a ∷ steps) = turns_of steps
turns_of (sends o ∷ steps) = turns_of steps
turns_of (hears turn heard ∷ steps) = turn ∷ turns_of steps

abbrev pub frames_of : {A : Type 0} → List (Step A) → List (List ℕ)
frames_of [] = []
frames_of (ticks answer gave_up ∷ steps) = frames_of steps
frames_of (submits o ∷ steps) = frames_of steps
frames_of (own a ∷ steps) = frames_of steps
frames_of (sends o ∷ steps) = o.frame ∷ frames_of steps
frames_of (hears turn heard ∷ steps) = frames_of steps

abbrev pub answers_of : {A : Type 0} → List (Step A) → List ℕ
answers_of [] = []
answers_of (ticks answer gave_up ∷ steps) = answer ∷ answers_of steps
answers_of (submits o ∷ steps) = answers_of steps
answers_of (own a ∷ steps) = answers_of steps
answers_of (sends o ∷ steps) = answers_of steps
answers_of (hears turn heard ∷ steps) = answers_of steps

-- how many of the latest consecutive turns ended no command
abbrev pub quiet_turns : {A : Type 0} → List (Step A) → ℕ
quiet_turns [] = 0
quiet_turns (ticks answer gave_up ∷ steps) = quiet_turns steps
quiet_turns (submits o ∷ steps) = quiet_turns steps
quiet_turns (own a ∷ steps) = quiet_turns steps
quiet_turns (sends o ∷ steps) = quiet_turns steps
quiet_turns (hears turn heard ∷ steps) = quiet_by heard (quiet_turns steps)

-- how many frames were sent since the last turn of the link
abbrev pub sent_now : {A : Type 0} → List (Step A) → ℕ
sent_now [] = 0
sent_now (ticks answer gave_up ∷ steps) = sent_now steps
sent_now (submits o ∷ steps) = sent_now steps
sent_now (own a ∷ steps) = sent_now steps
sent_now (sends o ∷ steps) = suc (sent_now steps)
sent_now (hears turn heard ∷ steps) = 0

-- the clock was looked at since the last turn of the link
abbrev pub has_ticked : {A : Type 0} → List (Step A) → Bool
has_ticked [] = false
has_ticked (ticks answer gave_up ∷ steps) = true
has_ticked (submits o ∷ steps) = has_ticked steps
has_ticked (own a ∷ steps) = has_ticked steps
has_ticked (sends o ∷ steps) = has_ticked steps
has_ticked (hears turn heard ∷ steps) = false

-- where a job begins: with a host that did these things before
pub record Start : Type 0 where
  pub host : Host
  pub log : List Event

-- with a host that did nothing before
abbrev pub new_start : Host → Start
new_start host = record { host = host; log = [] }

-- the command that is submitted after n others of the job has the next ticket
abbrev pub ticket_at : Start → ℕ → Ticket
ticket_at b n = record { 0 = suc (b.host.last_ticket + n) }

-- what the host did, as the host law speaks of it
abbrev pub log_of : {A : Type 0} → Start → List (Step A) → List Event
log_of b [] = b.log
log_of b (ticks answer gave_up ∷ steps) = after_tick answer gave_up (log_of b steps)
log_of b (submits o ∷ steps) = Submits (ticket_at b (asked steps)) the_device o ∷ log_of b steps
log_of b (own a ∷ steps) = log_of b steps
log_of b (sends o ∷ steps) = Sends o.sent.ticket o.sent.tag o.sent.path ∷ log_of b steps
log_of b (hears turn heard ∷ steps) = after_heard heard (log_of b steps)

-- how many commands have no outcome
abbrev pub is_open : HostCommand → Bool
is_open command = not command.done

abbrev pub open_in : List Event → ℕ
open_in log = count_by is_open (commands log)

abbrev pub open_of : {A : Type 0} → Start → List (Step A) → ℕ
open_of b steps = open_in (log_of b steps)

-- an outcome is an acknowledgement: neither a refusal nor a command that was given up
abbrev pub is_success : Outcome → Bool
is_success (outcome.Read bytes) = true
is_success outcome.Written = true
is_success outcome.Flushed = true
is_success (outcome.Told args) = true
is_success (outcome.AtaError status error) = false
is_success (outcome.AoeError error) = false
is_success (outcome.GaveUp first now) = false

abbrev pub IsWell : Done → Type 0
IsWell d = is_success d.outcome ≡ true

-- no command was refused or given up
abbrev pub GoesOn : {A : Type 0} → List (Step A) → Type 0
GoesOn steps = All IsWell (outcomes steps)

-- how long a job goes on: up to so many consecutive turns in which nothing comes that ends a command; and how many frames it sends in one
-- turn at most
pub record Patience : Type 0 where
  pub turns : ℕ
  pub most : ℕ

-- nothing more may be sent, or as many frames were as may be in one turn
abbrev pub IsSent : {A : Type 0} → Start → ℕ → List (Step A) → Type 0
IsSent b most steps = IsSilent b.host (log_of b steps) ⊎ (most ≤ sent_now steps)

-- A step may come after others. The law of the job says of which commands, of which steps of its own, and before which turn of the link. The
-- clock is looked at once in each turn, first of all; and no turn begins after as many quiet ones as the job waits.
abbrev pub MayCome : {A : Type 0} → (List (Step A) → Step A → Type 0) → Start → Patience → List (Step A) → Step A → Type 0
MayCome law b w steps (ticks answer gave_up) =
    (has_ticked steps ≡ false) × (quiet_turns steps < w.turns) × GivesUp b.host (log_of b steps) answer gave_up
MayCome law b w steps (submits o) = GoesOn steps × (has_ticked steps ≡ true) × law steps (submits o)
MayCome law b w steps (own a) = (has_ticked steps ≡ true) × law steps (own a)
MayCome law b w steps (sends o) = GoesOn steps × (has_ticked steps ≡ true) × MaySend b.host (log_of b steps) o
MayCome law b w steps (hears turn heard) =
    GoesOn steps × (has_ticked steps ≡ true) × law steps (hears turn heard) × IsSent b w.most steps × Hears b.host (log_of b steps) turn heard

-- steps of a job, each of which might come
abbrev pub AreSteps : {A : Type 0} → (List (Step A) → Step A → Type 0) → Start → Patience → List (Step A) → Type 0
AreSteps law b w [] = Unit {0}
AreSteps law b w (step ∷ steps) = AreSteps law b w steps × MayCome law b w steps step

-- what link and clock tell: how many turns there were, what came in them, the frames that were taken; the answers
pub record Seen : Type 0 where
  pub turns : ℕ
  pub given : Option (List Turn)
  pub taken : Option (List (List ℕ))
  pub answers : Option (List ℕ)

-- the answers of the clock, where it tells them
abbrev pub Told : Option (List ℕ) → Option (List ℕ) → List ℕ → Type 0
Told before after answers = IfSome after (λ all. Added before after answers)

-- what they tell now is what they told before, and these steps
pub record HasSeen {A : Type 0} (before now : Seen) (steps : List (Step A)) : Type 0 where
  pub turned : Turned before.turns now.turns before.given now.given (turns_of steps)
  pub took : Added before.taken now.taken (frames_of steps)
  pub told : Told before.answers now.answers (answers_of steps)

-- a host did these steps
pub record Drives {A : Type 0} (b : Start) (steps : List (Step A)) (host : Host) : Type 0 where
  pub same : IsSame b.host host
  pub matches : Matches (log_of b steps) host
  pub last : host.last_ticket ≡ b.host.last_ticket + asked steps
  pub tags : AreTagged host.flight.last_tag (log_of b steps)
