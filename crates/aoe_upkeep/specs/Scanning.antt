-- How the sides of a mirror are gone through: what is known and what was told when some sectors are compared.
use Rattle.std.specs.Prelude.{ℕ, ◌≡◌, ◌≤◌, ◌<◌, ◌+◌, ◌*◌, ◌/◌, ◌==◌, ◌++◌, Bool, true, false, List, [], ◌∷◌, length, take, Option, IfSome, Result, Ok, Err, if◌then◌else◌}
use Rattle.std.specs.List.{flat_map}
use Rattle.aoe_base.specs.declared.failure.Failed.{Failed}
use Rattle.aoe_disk.specs.State.{Contents}
use Rattle.aoe_io.specs.Bytes.{Took}
use Rattle.aoe_mirror.specs.Sides.{both}
use Rattle.aoe_upkeep.specs.Comparing.{AreOf, AreRuns, Differ, IsRead, Run, Scene, count_of, differs, differs_in, pieces_of, run_line}
use Rattle.aoe_upkeep.specs.declared.scan.Scan.{Scan}
use Rattle.aoe_upkeep.specs.declared.stop.CompareStop.{CompareStop}
use Rattle.aoe_upkeep.specs.declared.stop.CompareStop.TheVariants as stop

abbrev pub lines : List Run → List ℕ
lines = flat_map run_line

-- the sink took these bytes or a part of them, from the front on
abbrev pub TookFront : Option (List ℕ) → Option (List ℕ) → List ℕ → Type 0
TookFront before after bytes = (n : ℕ) × (n ≤ length bytes) × Took before after (take n bytes)

-- the run that ends before a sector, where there is one
abbrev pub closing : Scan → List Run
closing scan = if scan.start == scan.at then [] else record { at = scan.start; end = scan.at } ∷ []

pub record IsScan (scan : Scan) : Type 0 where
  pub start : scan.start ≤ scan.at
  pub count : scan.count ≤ scan.at

-- these are the runs that ended, and the sectors behind the last equal one differ
pub record Knows (unlike : ℕ → Bool) (scan : Scan) (runs : List Run) : Type 0 where
  pub is : IsScan scan
  pub ended : AreRuns unlike 0 scan.start runs
  pub open_run : Differ unlike scan.start scan.at
  pub count : scan.count ≡ count_of unlike scan.at

-- the next sectors are those of two pieces
abbrev pub Agree : (ℕ → Bool) → ℕ → List ℕ → List ℕ → Type 0
Agree unlike at one two = (k : ℕ) → 512 * k < length one → unlike (at + k) ≡ differs_in one two k

-- further runs ended
abbrev pub Passes : (ℕ → Bool) → Scan → Scan → List Run → Type 0
Passes unlike old new more = (runs : List Run) → Knows unlike old runs → Knows unlike new (runs ++ more)

-- the sectors of two pieces were gone through, or some of them where the sink failed
pub record Goes (one two : List ℕ) (old new : Scan) (more : List Run) : Type 0 where
  pub passes : (unlike : ℕ → Bool) → Agree unlike old.at one two → Passes unlike old new more

abbrev pub GoesOn : Result (Unit {0}) Failed → List ℕ → List ℕ → Scan → Scan → Option (List ℕ) → Option (List ℕ) → Type 0
GoesOn (Ok done) one two old new held held' = (more : List Run) × Goes one two old new more × Took held held' (lines more)
GoesOn (Err failed) one two old new held held' =
    (more : List Run) × (mid : Scan) × (mid.at ≤ old.at + length one / 512) × Goes one two old mid more × TookFront held held' (lines more)

-- the run that ends was told, or a part of it where the sink failed
abbrev pub ClosesOn : Result (Unit {0}) Failed → Scan → Option (List ℕ) → Option (List ℕ) → Type 0
ClosesOn (Ok done) scan held held' = Took held held' (lines (closing scan))
ClosesOn (Err failed) scan held held' = TookFront held held' (lines (closing scan))

-- on two sides further runs ended
abbrev pub SidesPass : Scene → Scan → Scan → List Run → Type 0
SidesPass old scan scan' more = IfSome (both old.one.contents old.two.contents) (λ (sides : Contents × Contents). Passes (differs sides) scan scan' more)

-- a piece of n sectors of each side was read and gone through, or a call failed
abbrev pub PassesOn : Result (Unit {0}) CompareStop → ℕ → Scan → Scan → Scene → Scene → Type 0
PassesOn (Ok done) n scan scan' old new = IsRead 1 false old.one new.one × IsRead 1 false old.two new.two
    × ((more : List Run) × SidesPass old scan scan' more × Took old.held new.held (lines more))
PassesOn (Err stop.FirstFailed) n scan scan' old new = IsRead 1 true old.one new.one × (new.two ≡ old.two) × (new.held ≡ old.held)
PassesOn (Err stop.SecondFailed) n scan scan' old new = IsRead 1 false old.one new.one × IsRead 1 true old.two new.two × (new.held ≡ old.held)
PassesOn (Err stop.SinkFault) n scan scan' old new = IsRead 1 false old.one new.one × IsRead 1 false old.two new.two
    × ((more : List Run) × (mid : Scan) × (mid.at ≤ scan.at + n) × SidesPass old scan mid more × TookFront old.held new.held (lines more))
PassesOn (Err e) n scan scan' old new = ⊥

-- both sides were read whole, and each run was told
pub record RunsAll (count : ℕ) (old new : Scene) : Type 0 where
  pub one : IsRead (pieces_of old.one.sectors) false old.one new.one
  pub two : IsRead (pieces_of old.one.sectors) false old.two new.two
  pub runs : List Run
  pub exact : AreOf old.one old.two count runs
  pub took : Took old.held new.held (lines runs)

-- both sides were read up to a call that failed, and a part of the runs was told
pub record RunsPart (one_failed two_failed : Bool) (old new : Scene) : Type 0 where
  pub one_calls : ℕ
  pub two_calls : ℕ
  pub one_few : one_calls ≤ pieces_of old.one.sectors
  pub two_few : two_calls ≤ pieces_of old.one.sectors
  pub one : IsRead one_calls one_failed old.one new.one
  pub two : IsRead two_calls two_failed old.two new.two
  pub count : ℕ
  pub runs : List Run
  pub exact : AreOf old.one old.two count runs
  pub took : TookFront old.held new.held (lines runs)

abbrev pub ComparesOn : Result ℕ CompareStop → Scene → Scene → Type 0
ComparesOn (Ok count) old new = RunsAll count old new
ComparesOn (Err stop.FirstFailed) old new = RunsPart true false old new
ComparesOn (Err stop.SecondFailed) old new = RunsPart false true old new
ComparesOn (Err stop.SinkFault) old new = RunsPart false false old new
ComparesOn (Err e) old new = ⊥
