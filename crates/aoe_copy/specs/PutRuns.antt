-- A whole copy into a device, over a link, a clock and a source that tell what they gave and took.
use Rattle.std.specs.Prelude.{ℕ, ◌≡◌, ◌≢◌, ◌+◌, ◌*◌, ◌/◌, ◌<◌, ◌≤◌, ◌⊎◌, Bool, true, false, List, [], ◌++◌, length, Option, None, Result, Ok, Err}
use Rattle.aoe_base.specs.declared.address.TargetId.{TargetId}
use Rattle.aoe_block.specs.Steps.{new_start, open_of, outcomes, quiet_turns, AreSteps, GoesOn, HasSeen, Seen, Start}
use Rattle.aoe_io.specs.Bytes.{Gave, IsEnded}
use Rattle.aoe_tools.specs.Asking.{Answers}
use Rattle.aoe_tools.specs.LookUp.{Finds, LinkState}
use Rattle.aoe_tools.specs.Runs.{before, Told as ToldAll}
use Rattle.aoe_tools.specs.declared.end.Refusal.TheVariants as refusal
use Rattle.aoe_tools.specs.declared.end.ToolRefusal.{ToolRefusal}
use Rattle.aoe_tools.specs.declared.end.ToolRefusal.TheVariants as tool
use Rattle.aoe_tools.specs.declared.lookup.Device.{Device}
use Rattle.aoe_copy.specs.declared.end.CopyRefusal.{CopyRefusal}
use Rattle.aoe_copy.specs.declared.end.CopyRefusal.TheVariants as copy
use Rattle.aoe_copy.specs.declared.plan.Plan.{Plan}
use Rattle.aoe_copy.specs.declared.putting.Stage.{Stage}
use Rattle.aoe_copy.specs.declared.putting.Stage.TheVariants as stage
use Rattle.aoe_copy.specs.declared.terms.Terms.{Terms}
use Rattle.aoe_copy.specs.Plan.{plan_of}
use Rattle.aoe_copy.specs.PutSteps.{count_of, pieces, rest_of, stage_of, written, MayFlush, MayRead, PutLaw, PutStep}
use Rattle.aoe_copy.specs.Runs.{host_at}
use Rattle.aoe_copy.specs.Steps.{patience, Fails}

-- what link, clock and source tell
pub record PutSeen : Type 0 where
  pub link : Seen
  pub left : Option (List ℕ)

-- The source gave some bytes. With the front, which was read before, they are those that were used and those after them.
pub record HasFed (front : List ℕ) (before now : Option (List ℕ)) (used behind : List ℕ) : Type 0 where
  pub fed : List ℕ
  pub gave : Gave before now fed
  pub all : front ++ fed ≡ used ++ behind

-- what they tell now is what they told before, and these steps, after whose writes so much of the input was read
pub record HasPut (before now : PutSeen) (front : List ℕ) (steps : List PutStep) (behind : List ℕ) : Type 0 where
  pub seen_is : HasSeen before.link now.link steps
  pub fed : HasFed front before.left now.left (written steps) behind

-- no more of the source was read than what was submitted, and one command more; or nothing was read after the front
abbrev pub IsLean : List ℕ → List ℕ → List ℕ → Type 0
IsLean front used behind = (length behind ≤ 8704) ⊎ (length used + length behind ≤ length front)

-- Once the end of the input is taken for reached, it is: the source has ended, and after the sectors that were submitted there are these bytes
-- and no others. As long as it is read, and where it goes on after the device's last sector, there may be more of it.
abbrev pub IsReadOut : Stage → Option (List ℕ) → List ℕ → List ℕ → Type 0
IsReadOut stage.Reading left behind rest = Unit {0}
IsReadOut stage.Ended left behind rest = IsEnded left × (behind ≡ rest)
IsReadOut stage.Broken left behind rest = IsEnded left × (behind ≡ rest)
IsReadOut stage.Beyond left behind rest = Unit {0}
IsReadOut stage.Flushing left behind rest = IsEnded left × (behind ≡ rest)

-- why a copy ends in a refusal of a tool: the first outcome that isn't a success; the input goes on after the last sector of the device,
-- and each command was acknowledged; no command ended in so many turns; there was no memory for the next command; the link failed
abbrev pub Breaks : ToolRefusal → Start → Plan → Bool → ℕ → List PutStep → Type 0
Breaks tool.LinkFault b p flush turns steps = GoesOn steps
Breaks tool.NoMemory b p flush turns steps = GoesOn steps × (MayRead b p steps ⊎ MayFlush b flush steps)
Breaks (tool.Unanswered n) b p flush turns steps = ((n ≡ turns) × (quiet_turns steps ≡ turns)) ⊎ Fails turns (outcomes steps) (tool.Unanswered n)
Breaks (tool.Refused r) b p flush turns steps =
    ((r ≡ refusal.Range) × GoesOn steps × (stage_of steps ≡ stage.Beyond) × (open_of b steps ≡ 0))
    ⊎ Fails turns (outcomes steps) (tool.Refused r)

-- what is done once all is: the flush, or where none is asked for the writes
abbrev pub last_stage : Bool → Stage
last_stage true = stage.Flushing
last_stage false = stage.Ended

-- How a copy ends: with the flush acknowledged after all writes, which are the whole input; or where the input ended within a sector, once
-- the writes before it were acknowledged; or by a fault of the source, or as a tool.
abbrev pub EndsBy : Result Unit CopyRefusal → Start → Plan → Bool → ℕ → Option (List ℕ) → List PutStep → List ℕ → Type 0
EndsBy (Ok done) b p flush turns left steps behind =
    GoesOn steps × (stage_of steps ≡ last_stage flush) × (open_of b steps ≡ 0) × (behind ≡ []) × IsEnded left
EndsBy (Err (copy.Stream offset)) b p flush turns left steps behind =
    GoesOn steps × (stage_of steps ≡ stage.Broken) × (open_of b steps ≡ 0) × (offset ≡ 512 * count_of (pieces steps)) × (0 < length behind) × (length behind < 512)
    × IsEnded left
EndsBy (Err copy.SourceFault) b p flush turns left steps behind = GoesOn steps × MayRead b p steps
EndsBy (Err (copy.Tool refusal)) b p flush turns left steps behind = Breaks refusal b p flush turns steps
EndsBy (Err copy.SinkFault) b p flush turns left steps behind = ⊥

-- what a copy into a device is: where it begins, where it goes, whether a flush follows, how long it is waited, and what was read of the
-- input before
pub record PutSetting : Type 0 where
  pub start : Start
  pub plan : Plan
  pub flush : Bool
  pub turns : ℕ
  pub front : List ℕ

-- a copy into a device
pub record Runs (result : Result Unit CopyRefusal) (c : PutSetting) (before now : PutSeen) : Type 0 where
  pub steps : List PutStep
  pub are : AreSteps (PutLaw c.start c.plan c.flush) c.start (patience c.turns) steps
  pub behind : List ℕ
  pub seen_is : HasPut before now c.front steps behind
  pub lean : result ≢ Err copy.SourceFault → IsLean c.front (written steps) behind
  pub over : IsReadOut (stage_of steps) now.left behind (rest_of steps)
  pub ends : EndsBy result c.start c.plan c.flush c.turns now.left steps behind

-- there is no memory for a host; or the input is copied
abbrev pub MayRun : Result Unit CopyRefusal → Terms → TargetId → Device → Plan → Bool → List ℕ → PutSeen → PutSeen → Type 0
MayRun result t id d p flush front before now =
    ((result ≡ Err (copy.Tool tool.NoMemory)) × (now ≡ before))
    ⊎ Runs result (record { start = new_start (host_at t id d); plan = p; flush = flush; turns = t.ask.turns; front = front }) before now

-- once a device is found: it doesn't have the sectors of the front; or it does, and there is no memory for a host; or the input is copied
abbrev pub CopiesAt : Result Device ToolRefusal → Result Unit CopyRefusal → Terms → TargetId → ℕ → Bool → List ℕ → PutSeen → PutSeen → Type 0
CopiesAt (Err e) result t id at flush front before now = (result ≡ Err (copy.Tool e)) × (now ≡ before)
CopiesAt (Ok d) result t id at flush front before now =
    ((d.total < at + length front / 512) × (result ≡ Err (copy.Tool (tool.Refused refusal.Range))) × (now ≡ before))
    ⊎ ((at + length front / 512 ≤ d.total)
    × MayRun result t id d (plan_of d at None) flush front before now)

-- of an input whose front was read: the device is found, by the clock's first answer, and then the input is copied; a command has so many
-- sectors at most
pub record Copies (result : Result Unit CopyRefusal) (t : Terms) (id : TargetId) (at : ℕ) (flush : Bool) (front : List ℕ) (x : ToldAll) (left left' : Option (List ℕ)) : Type 0 where
  pub first : ℕ
  pub later : Option (List ℕ)
  pub answered : Answers first x.least x.answers later
  pub found : Result Device ToolRefusal
  pub mid : LinkState
  pub finds : Finds found t.ask id first t.most (before x) mid
  pub copies : CopiesAt found result t id at flush front
      (record { link = record { turns = mid.turns; given = mid.given; taken = mid.taken; answers = later }; left = left })
      (record { link = record { turns = x.turns'; given = x.given'; taken = x.taken'; answers = x.answers' }; left = left' })
