-- What a copy into a device keeps while it runs, and what it is true of: the steps so far, and what link, clock and source tell of them.
use Rattle.std.specs.Prelude.{ℕ, suc, ◌≡◌, ◌+◌, ◌-◌, ◌*◌, ◌/◌, ◌^◌, ◌<◌, ◌≤◌, ◌⊎◌, min, nat_eq, nat_lt, not, Bool, true, false, ◌&&◌, List, [], ◌∷◌, ◌++◌, length, Option, Some, None, Result, Ok, Err, if◌then◌else◌}
use Rattle.aoe_block.specs.Answered.{IsStart}
use Rattle.aoe_block.specs.Steps.{has_ticked, open_of, outcomes, quiet_turns, AreSteps, Drives, GoesOn}
use Rattle.aoe_block.specs.Turns.{quiet_by, the_device, Heard}
use Rattle.aoe_initiator.specs.declared.op.Op.TheVariants as op
use Rattle.aoe_initiator.specs.Host.{IsSame, Matches}
use Rattle.aoe_initiator.specs.HostLog.{Event}
use Rattle.aoe_initiator.specs.HostLog.Event.{Submits}
use Rattle.aoe_io.specs.Bytes.{IsEnded}
use Rattle.aoe_tools.specs.declared.end.Refusal.TheVariants as refusal
use Rattle.aoe_tools.specs.declared.end.ToolRefusal.TheVariants as tool
use Rattle.aoe_copy.specs.declared.copying.Passed.{Passed}
use Rattle.aoe_copy.specs.declared.copying.Passed.TheVariants as passed
use Rattle.aoe_copy.specs.declared.end.CopyRefusal.{CopyRefusal}
use Rattle.aoe_copy.specs.declared.end.CopyRefusal.TheVariants as copy
use Rattle.aoe_copy.specs.declared.putting.Putting.{Putting}
use Rattle.aoe_copy.specs.declared.putting.Stage.{Stage}
use Rattle.aoe_copy.specs.declared.putting.Stage.TheVariants as stage
use Rattle.aoe_copy.specs.Copying.{count_heard, InOrder}
use Rattle.aoe_copy.specs.Feed.{ahead, IsFeed}
use Rattle.aoe_copy.specs.PutRuns.{HasPut, PutSeen, PutSetting, Runs}
use Rattle.aoe_copy.specs.PutSteps.{count_of, pieces, rest_of, stage_of, written, AreFull, PutLaw, PutStep}
use Rattle.aoe_copy.specs.Steps.{patience}
use Rattle.aoe_copy.specs.Window.{most_open}

-- how many commands a stage has submitted that are no writes
abbrev pub flushes_in : Stage → ℕ
flushes_in stage.Reading = 0
flushes_in stage.Ended = 0
flushes_in stage.Broken = 0
flushes_in stage.Beyond = 0
flushes_in stage.Flushing = 1

-- its numbers fit one another: there is one device, each command has a sector or is the flush, and no number is near the end of its type
pub record IsFit (x : Putting) : Type 0 where
  pub attached : length x.host.devices ≡ 1
  pub asked_is : x.asked ≡ x.host.last_ticket
  pub few : x.host.last_ticket ≤ x.before + x.reached + flushes_in x.stage
  pub before : x.before ≤ 2 ^ 62
  pub within : x.reached ≤ x.plan.count
  pub small : x.plan.at + x.plan.count ≤ 2 ^ 48
  pub some : 0 < x.plan.max
  pub most : x.plan.max ≤ 17
  pub feed : IsFeed x.feed

-- what never changes, and what link, clock and source told before
pub record Setting : Type 0 where
  pub put : PutSetting
  pub before : PutSeen

-- what came behind the whole sectors, by the stage
abbrev pub IsRest : Stage → List ℕ → Type 0
IsRest stage.Reading rest = rest ≡ []
IsRest stage.Ended rest = rest ≡ []
IsRest stage.Broken rest = (0 < length rest) × (length rest < 512)
IsRest stage.Beyond rest = (0 < length rest) × (length rest ≤ 512)
IsRest stage.Flushing rest = rest ≡ []

-- past the end of the input nothing is left of it
abbrev pub IsOver : Stage → Option (List ℕ) → List ℕ → Type 0
IsOver stage.Reading left ahead = Unit {0}
IsOver stage.Ended left ahead = IsEnded left × (ahead ≡ [])
IsOver stage.Broken left ahead = IsEnded left × (ahead ≡ [])
IsOver stage.Beyond left ahead = Unit {0}
IsOver stage.Flushing left ahead = IsEnded left × (ahead ≡ [])

-- nothing is left of the front, and little came behind the sectors; or nothing was read behind the front
abbrev pub IsLean : List ℕ → List ℕ → List ℕ → List ℕ → Type 0
IsLean front used rest ahead = ((ahead ≡ []) × (length rest ≤ 512)) ⊎ (length used + length rest + length ahead ≤ length front)

-- the steps of a copy are such, and what link, clock and source tell now is of them, where so much of the front is left
pub record Stands (c : Setting) (seen : PutSeen) (ahead : List ℕ) (steps : List PutStep) : Type 0 where
  pub begins : IsStart c.put.start
  pub are : AreSteps (PutLaw c.put.start c.put.plan c.put.flush) c.put.start (patience c.put.turns) steps
  pub seen_is : HasPut c.before seen c.put.front steps (rest_of steps ++ ahead)
  pub lean : IsLean c.put.front (written steps) (rest_of steps) ahead
  pub over : IsOver (stage_of steps) seen.left ahead
  pub rest : IsRest (stage_of steps) (rest_of steps)
  pub full : stage_of steps ≡ stage.Reading → AreFull c.put.plan (pieces steps)

-- what it keeps is true of these steps
pub record Keeps (c : Setting) (steps : List PutStep) (x : Putting) : Type 0 where
  pub plan_is : x.plan ≡ c.put.plan
  pub flush_is : x.flush ≡ c.put.flush
  pub drives : Drives c.put.start steps x.host
  pub reached_is : x.reached ≡ count_of (pieces steps)
  pub stage_is : x.stage ≡ stage_of steps

-- a copy that did nothing yet
pub record Begins (c : PutSetting) (x : Putting) : Type 0 where
  pub host_is : x.host ≡ c.start.host
  pub plan_is : x.plan ≡ c.plan
  pub flush_is : x.flush ≡ c.flush
  pub reached_is : x.reached ≡ 0
  pub stage_is : x.stage ≡ stage.Reading
  pub ahead_is : ahead x.feed ≡ c.front
  pub begins : IsStart c.start

abbrev pub is_reading : Stage → Bool
is_reading stage.Reading = true
is_reading stage.Ended = false
is_reading stage.Broken = false
is_reading stage.Beyond = false
is_reading stage.Flushing = false

abbrev pub is_ended : Stage → Bool
is_ended stage.Reading = false
is_ended stage.Ended = true
is_ended stage.Broken = false
is_ended stage.Beyond = false
is_ended stage.Flushing = false

-- more of the input may be read
abbrev pub may_read : Putting → Bool
may_read x = is_reading x.stage && nat_lt (length x.host.pending) most_open

-- the flush may be submitted
abbrev pub may_flush : Putting → Bool
may_flush x = x.flush && (is_ended x.stage && nat_eq (length x.host.pending) 0)

-- how many sectors the next command may have
abbrev pub room_of : Putting → ℕ
room_of x = min x.plan.max (x.plan.count - x.reached)

-- whether the copy is over once no command is under way, and how where it isn't copied
abbrev pub end_in : Bool → Stage → ℕ → Result Bool CopyRefusal
end_in flush stage.Reading reached = Ok false
end_in flush stage.Ended reached = Ok (not flush)
end_in flush stage.Broken reached = Err (copy.Stream (512 * reached))
end_in flush stage.Beyond reached = Err (copy.Tool (tool.Refused refusal.Range))
end_in flush stage.Flushing reached = Ok true

abbrev pub end_of : Putting → Result Bool CopyRefusal
end_of x = if nat_eq (length x.host.pending) 0 then end_in x.flush x.stage x.reached else Ok false

-- the next write was submitted
pub record WritesOne (bytes : List ℕ) (old new : Putting) : Type 0 where
  pub submits : (log : List Event) → Matches log old.host
      → Matches (Submits (record { 0 = suc old.host.last_ticket }) the_device (op.Write (old.plan.at + old.reached) bytes) ∷ log) new.host
  pub same : IsSame old.host new.host
  pub last : new.host.last_ticket ≡ suc old.host.last_ticket
  pub tag : new.host.flight.last_tag ≡ old.host.flight.last_tag
  pub waiting : new.host.waiting ≡ old.host.waiting
  pub plan_is : new.plan ≡ old.plan
  pub flush_is : new.flush ≡ old.flush
  pub reached_is : new.reached ≡ old.reached + length bytes / 512
  pub stage_is : new.stage ≡ old.stage
  pub feed_is : new.feed ≡ old.feed

-- the next write was, where it has a sector
abbrev pub WritesSome : List ℕ → Putting → Putting → Type 0
WritesSome bytes old new =
    ((bytes ≡ []) × (new.host ≡ old.host) × (new.plan ≡ old.plan) × (new.reached ≡ old.reached) × (new.stage ≡ old.stage) × (new.feed ≡ old.feed)
    × (new.flush ≡ old.flush))
    ⊎ ((0 < length bytes) × WritesOne bytes old new)

-- what is left to do where the input ended with so many bytes after its whole sectors, and where it has so many behind the last sector of
-- the device
abbrev pub stage_behind : ℕ → Stage
stage_behind rest = if nat_eq rest 0 then stage.Ended else stage.Broken

abbrev pub stage_past : ℕ → Stage
stage_past rest = if nat_eq rest 0 then stage.Ended else stage.Beyond

-- the flush was
pub record FlushesOne (old new : Putting) : Type 0 where
  pub submits : (log : List Event) → Matches log old.host → Matches (Submits (record { 0 = suc old.host.last_ticket }) the_device op.Flush ∷ log) new.host
  pub same : IsSame old.host new.host
  pub last : new.host.last_ticket ≡ suc old.host.last_ticket
  pub tag : new.host.flight.last_tag ≡ old.host.flight.last_tag
  pub waiting : new.host.waiting ≡ old.host.waiting
  pub plan_is : new.plan ≡ old.plan
  pub flush_is : new.flush ≡ old.flush
  pub reached_is : new.reached ≡ old.reached
  pub stage_is : new.stage ≡ stage.Flushing
  pub feed_is : new.feed ≡ old.feed

-- how many commands are left that are no writes
abbrev pub flushes_left : Stage → ℕ
flushes_left stage.Reading = 1
flushes_left stage.Ended = 1
flushes_left stage.Broken = 0
flushes_left stage.Beyond = 0
flushes_left stage.Flushing = 0

-- how many commands have no outcome, and how many there may still be
abbrev pub left_of : Setting → List PutStep → ℕ
left_of c steps = open_of c.put.start steps + (c.put.plan.count - count_of (pieces steps)) + flushes_left (stage_of steps)

abbrev pub left_now : Putting → ℕ
left_now x = length x.host.pending + (x.plan.count - x.reached) + flushes_left x.stage

-- how many times more the input may be read
abbrev pub reads_in : Stage → ℕ
reads_in stage.Reading = 1
reads_in stage.Ended = 0
reads_in stage.Broken = 0
reads_in stage.Beyond = 0
reads_in stage.Flushing = 0

abbrev pub reads_left : Putting → ℕ
reads_left x = (x.plan.count - x.reached) + reads_in x.stage

-- the copy went on by steps with no outcome, no turn, and no more left to do
pub record Asked (c : Setting) (seen : PutSeen) (steps : List PutStep) (x : Putting) : Type 0 where
  pub steps' : List PutStep
  pub stands : Stands c seen (ahead x.feed) steps'
  pub keeps : Keeps c steps' x
  pub outcomes_are : outcomes steps' ≡ outcomes steps
  pub quiet_is : quiet_turns steps' ≡ quiet_turns steps
  pub ticked : has_ticked steps' ≡ true
  pub left_is : left_of c steps' ≤ left_of c steps

-- it ended
abbrev pub Ended : Result Unit CopyRefusal → Setting → PutSeen → Type 0
Ended result c seen = Runs result c.put c.before seen

-- more of the input was read, and submitted; or it failed, or there was no memory
abbrev pub ReadsOn : Result Unit CopyRefusal → Setting → PutSeen → List PutStep → Putting → Type 0
ReadsOn (Ok done) c seen steps x = Asked c seen steps x
ReadsOn (Err refusal) c seen steps x = Ended (Err refusal) c seen

-- a turn passed, which ended a command or none
pub record Passes (c : Setting) (seen : PutSeen) (steps : List PutStep) (x : Putting) (heard : Option Heard) : Type 0 where
  pub steps' : List PutStep
  pub stands : Stands c seen (ahead x.feed) steps'
  pub keeps : Keeps c steps' x
  pub order : InOrder x.host.waiting (outcomes steps')
  pub quiet_is : quiet_turns steps' ≡ quiet_by heard (quiet_turns steps)
  pub unticked : has_ticked steps' ≡ false
  pub left_is : left_of c steps' + count_heard heard ≤ left_of c steps

-- what a turn came to
abbrev pub Turns : Result Passed CopyRefusal → Setting → PutSeen → List PutStep → Putting → Type 0
Turns (Ok passed.Over) c seen steps x = (r : Ended (Ok record {}) c seen) × Drives c.put.start r.steps x.host × (x.host.waiting ≡ [])
Turns (Ok passed.Answered) c seen steps x = (h : Heard) × Passes c seen steps x (Some h)
Turns (Ok passed.Quiet) c seen steps x = Passes c seen steps x None
Turns (Err refusal) c seen steps x = Ended (Err refusal) c seen

-- its first part: the clock answered, and outcomes were taken
pub record Collected (c : Setting) (seen : PutSeen) (steps : List PutStep) (x : Putting) : Type 0 where
  pub steps' : List PutStep
  pub stands : Stands c seen (ahead x.feed) steps'
  pub keeps : Keeps c steps' x
  pub waiting : x.host.waiting ≡ []
  pub goes_on : GoesOn steps'
  pub quiet_is : quiet_turns steps' ≡ quiet_turns steps
  pub ticked : has_ticked steps' ≡ true
  pub left_is : left_of c steps' ≤ left_of c steps

abbrev pub Collects : Result Unit CopyRefusal → Setting → PutSeen → List PutStep → Putting → Type 0
Collects (Ok done) c seen steps x = Collected c seen steps x
Collects (Err refusal) c seen steps x = Ended (Err refusal) c seen

-- a turn may begin: the last one has passed, and fewer quiet ones than are waited for
pub record MayBegin (c : Setting) (turns : ℕ) (steps : List PutStep) : Type 0 where
  pub unticked : has_ticked steps ≡ false
  pub few : quiet_turns steps < c.put.turns
  pub turns_are : c.put.turns ≡ turns
