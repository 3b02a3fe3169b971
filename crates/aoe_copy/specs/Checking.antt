-- What a copy that is read again keeps between two parts of its input, and what it is true of: the parts so far, and what link, clock and source
-- tell of them.
use Rattle.std.specs.Prelude.{ℕ, ◌≡◌, ◌+◌, ◌-◌, ◌*◌, ◌^◌, ◌<◌, ◌≤◌, Bool, true, false, List, [], length, All, Result, Ok, Err}
use Rattle.aoe_block.specs.Answered.{IsStart}
use Rattle.aoe_block.specs.Steps.{Drives, Seen, Start}
use Rattle.aoe_initiator.specs.Host.{Host}
use Rattle.aoe_initiator.specs.HostLog.{Event}
use Rattle.aoe_io.specs.Bytes.{IsEnded}
use Rattle.aoe_copy.specs.declared.again.Between.{Between}
use Rattle.aoe_copy.specs.declared.again.Course.{Course}
use Rattle.aoe_copy.specs.declared.end.CopyRefusal.{CopyRefusal}
use Rattle.aoe_copy.specs.declared.plan.Plan.{Plan}
use Rattle.aoe_copy.specs.Again.{holding, AreChecked, Checks, IsBack, IsChecked, IsCut, IsFull, Unchecked}
use Rattle.aoe_copy.specs.Feed.{ahead, IsFeed}
use Rattle.aoe_copy.specs.PutRuns.{HasFed, PutSeen}
use Rattle.aoe_copy.specs.PutSteps.{count_of}
use Rattle.aoe_copy.specs.Runs.{Runs as Reads}
use Rattle.aoe_copy.specs.Window.{in_order}

-- the sectors of the device are there, and a command has some
pub record IsCourse (c : Course) : Type 0 where
  pub range : c.plan.at + c.plan.count < 2 ^ 48
  pub some : 0 < c.plan.max
  pub max : c.plan.max ≤ 17

-- a host is attached to the one device, has nothing to tell, and gave so many tickets
pub record IsFree (host : Host) (asked : ℕ) : Type 0 where
  pub attached : length host.devices ≡ 1
  pub waiting : host.waiting ≡ []
  pub asked_is : asked ≡ host.last_ticket

-- its numbers fit one another: a sector that was reached took three tickets at most, as there are a write, a read and a flush
pub record IsFit (c : Course) (x : Between) : Type 0 where
  pub free : IsFree x.host x.asked
  pub few : x.goes_on ≡ true → x.asked ≤ 3 * x.reached
  pub within : x.reached ≤ c.plan.count
  pub feed : IsFeed x.feed

-- sectors were read into memory, and came back as they were sent; or they didn't, or not all
abbrev pub ReadsInto : Result (Host × ℕ) CopyRefusal → Start → Plan → ℕ → List ℕ → Seen → Seen → Type 0
ReadsInto (Ok r) b p turns sent seen now = (reads : Reads (Ok record {}) b p turns (holding [] seen) (holding sent now)) × Drives b reads.steps r.0
ReadsInto (Err e) b p turns sent seen now =
    (read : Result Unit CopyRefusal) × (back : List ℕ) × Reads read b p turns (holding [] seen) (holding back now) × IsBack read p.at sent back (Err e)

-- what came of a part: the host is at the next start; or it wasn't checked
abbrev pub PartEnds : Result (Host × ℕ) CopyRefusal → Course → Start → ℕ → List ℕ → Seen → Seen → Type 0
PartEnds (Ok r) c b reached part seen now =
    (log : List Event) × IsStart (record { host = r.0; log = log }) × IsChecked c b reached part seen now (record { host = r.0; log = log })
PartEnds (Err e) c b reached part seen now = Unchecked e c b reached part seen now

-- so many parts were checked, and what link, clock and source tell now is of them
pub record SoFar (c : Course) (b : Start) (front : List ℕ) (before now : PutSeen) (x : Between) : Type 0 where
  pub parts : List (List ℕ)
  pub log : List Event
  pub are : AreChecked c b parts before.link now.link (record { host = x.host; log = log })
  pub begins : IsStart (record { host = x.host; log = log })
  pub fed : HasFed front before.left now.left (in_order parts) (ahead x.feed)
  pub reached_is : x.reached ≡ count_of parts
  pub full : x.goes_on ≡ true → All IsFull parts
  pub over : x.goes_on ≡ false → IsCut parts × IsEnded now.left × (ahead x.feed ≡ [])

-- the next part was checked, or the input has ended; or the copy has
abbrev pub GoesOn : Result Between CopyRefusal → Course → Start → List ℕ → PutSeen → PutSeen → Type 0
GoesOn (Ok x) c b front before now = SoFar c b front before now x
GoesOn (Err e) c b front before now = Checks (Err e) c b front before now

abbrev pub count_more : Bool → ℕ
count_more true = 1
count_more false = 0

-- how much is left to do: sectors, and one part at least where the input goes on
abbrev pub left_of : Course → Between → ℕ
left_of c x = (c.plan.count - x.reached) + count_more x.goes_on
