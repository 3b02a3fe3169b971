-- Two sides of a mirror that are compared: which sectors differ, the text that says so, and how the comparison ends.
use Rattle.std.specs.Prelude.{ℕ, suc, zero, ◌≡◌, ◌≢◌, ◌≤◌, ◌<◌, ◌+◌, ◌-◌, ◌/◌, ◌==◌, ◌++◌, Bool, true, false, not, List, [], ◌∷◌, Option, Some, None, IfSome, Result, Ok, Err, if◌then◌else◌, codes, decimal}
use Rattle.std.specs.List.{flat_map}
use Rattle.std.specs.Str.{bytes_eq}
use Rattle.aoe_disk.specs.State.{BothTell, Contents, DiskState, sector}
use Rattle.aoe_disk.specs.Calls.{IsRun}
use Rattle.aoe_disk.specs.Sectors.{Calms}
use Rattle.aoe_io.specs.Bytes.{Took, TookSome}
use Rattle.aoe_mirror.specs.Mirror.{ReadsMark}
use Rattle.aoe_mirror.specs.Sides.{both}
use Rattle.aoe_mirror.specs.declared.clean.Found.{Found}
use Rattle.aoe_upkeep.specs.declared.stop.CompareStop.{CompareStop}
use Rattle.aoe_upkeep.specs.declared.stop.CompareStop.TheVariants as stop

-- ---- which sectors differ

-- whether sector s isn't the same in two byte strings
abbrev pub differs_in : List ℕ → List ℕ → ℕ → Bool
differs_in one two s = not (bytes_eq (sector one s) (sector two s))

-- whether sector s isn't the same on two sides
abbrev pub differs : Contents × Contents → ℕ → Bool
differs sides = differs_in sides.0.bytes sides.1.bytes

-- how many of the first n sectors differ
unfoldable pub count_of : (ℕ → Bool) → ℕ → ℕ
count_of unlike zero = 0
count_of unlike (suc n) = if unlike n then suc (count_of unlike n) else count_of unlike n

-- all sectors from `from` on differ that stand before `to`, or none of them does
abbrev pub Differ : (ℕ → Bool) → ℕ → ℕ → Type 0
Differ unlike from to = (s : ℕ) → from ≤ s → s < to → unlike s ≡ true

abbrev pub AreEqual : (ℕ → Bool) → ℕ → ℕ → Type 0
AreEqual unlike from to = (s : ℕ) → from ≤ s → s < to → unlike s ≡ false

-- the sectors from `at` on, before `end`
pub record Run : Type 0 where
  pub at : ℕ
  pub end : ℕ

-- one sector at least, and as many as differ one after the other
pub record DiffersWhole (unlike : ℕ → Bool) (run : Run) : Type 0 where
  pub some : run.at < run.end
  pub differ : Differ unlike run.at run.end
  pub longest : unlike run.end ≡ false

-- The greatest runs of sectors that differ, in their order, of those from `from` on and before `to`: in front of each of them, and behind
-- the last, all sectors are equal. Behind the end of a disk no sector differs.
abbrev pub AreRuns : (ℕ → Bool) → ℕ → ℕ → List Run → Type 0
AreRuns unlike from to [] = (from ≤ to) × AreEqual unlike from to
AreRuns unlike from to (run ∷ runs) = (from ≤ run.at) × AreEqual unlike from run.at × DiffersWhole unlike run × AreRuns unlike run.end to runs

-- ---- the text

-- which side leads, and whether the mark disk says that the mirror is clean
abbrev pub head_line : Found → List ℕ
head_line found = (if found.side == 1 then codes "second leads, " else codes "first leads, ")
    ++ (if found.is_clean then codes "clean" else codes "not clean") ++ 10 ∷ []

-- a run of sectors that differ
abbrev pub run_line : Run → List ℕ
run_line run = if run.end == run.at + 1 then codes "sector " ++ decimal run.at ++ codes " differs" ++ 10 ∷ []
    else codes "sectors " ++ decimal run.at ++ codes " to " ++ decimal (run.end - 1) ++ codes " differ" ++ 10 ∷ []

-- how many sectors differ, and how many there are
abbrev pub last_line : ℕ → ℕ → List ℕ
last_line count sectors = decimal count ++ codes " of " ++ decimal sectors ++ codes " sectors differ" ++ 10 ∷ []

-- these are the greatest runs of sectors that differ on two sides, and so many sectors differ, where both tell what they hold
abbrev pub AreOf : DiskState → DiskState → ℕ → List Run → Type 0
AreOf one two count runs = IfSome (both one.contents two.contents)
    (λ (sides : Contents × Contents). AreRuns (differs sides) 0 one.sectors runs × (count ≡ count_of (differs sides) one.sectors))

-- the text of two sides with so many sectors that differ: a line for each run of them
pub record IsText (found : Found) (one two : DiskState) (count : ℕ) (text : List ℕ) : Type 0 where
  pub runs : List Run
  pub is : text ≡ head_line found ++ flat_map run_line runs ++ last_line count one.sectors
  pub exact : AreOf one two count runs

-- ---- how a comparison ends

-- the two sides, and what the sink took by then
pub record Scene : Type 0 where
  pub one : DiskState
  pub two : DiskState
  pub held : Option (List ℕ)

abbrev pub scene : {D K : Type 0} → (D → DiskState) → (K → Option (List ℕ)) → D → D → K → Scene
scene state held one two sink = record { one = state one; two = state two; held = held sink }

-- how many pieces of 64 sectors there are, where the last may be shorter
abbrev pub pieces_of : ℕ → ℕ
pieces_of sectors = (sectors + 63) / 64

-- a side was read by so many calls, of which the last failed or none did, and no sector of it changed
pub record IsRead (calls : ℕ) (failed : Bool) (old new : DiskState) : Type 0 where
  pub run : IsRun calls failed old new
  pub same : new.contents ≡ old.contents

-- both sides were read whole, by a call for each piece, and the sink took all of the text
pub record TellsAll (found : Found) (count : ℕ) (old new : Scene) : Type 0 where
  pub one : IsRead (pieces_of old.one.sectors) false old.one new.one
  pub two : IsRead (pieces_of old.one.sectors) false old.two new.two
  pub text : List ℕ
  pub is : IsText found old.one old.two count text
  pub took : Took old.held new.held text

-- both sides were read, up to a call of one of them or of the sink that failed, and the sink took a part of the text
pub record TellsPart (one_failed two_failed : Bool) (found : Found) (old new : Scene) : Type 0 where
  pub one_calls : ℕ
  pub two_calls : ℕ
  pub one_few : one_calls ≤ pieces_of old.one.sectors
  pub two_few : two_calls ≤ pieces_of old.one.sectors
  pub one : IsRead one_calls one_failed old.one new.one
  pub two : IsRead two_calls two_failed old.two new.two
  pub count : ℕ
  pub text : List ℕ
  pub is : IsText found old.one old.two count text
  pub took : TookSome old.held new.held text

-- what is read and told once the mark disk named a side
abbrev pub Tells : Result ℕ CompareStop → Found → Scene → Scene → Type 0
Tells (Ok count) found old new = TellsAll found count old new
Tells (Err stop.FirstFailed) found old new = TellsPart true false found old new
Tells (Err stop.SecondFailed) found old new = TellsPart false true found old new
Tells (Err stop.SinkFault) found old new = TellsPart false false found old new
Tells (Err (stop.Unequal first second)) found old new = ⊥
Tells (Err stop.NoMark) found old new = ⊥
Tells (Err stop.NotMark) found old new = ⊥
Tells (Err stop.MarkFailed) found old new = ⊥
Tells (Err stop.NoMemory) found old new = ⊥

-- the sides have as many sectors, the mark disk has one, and this is what it says
pub record Finds (found : Option Found) (one two mark mark' : DiskState) : Type 0 where
  pub size : two.sectors ≡ one.sectors
  pub room : 0 < mark.sectors
  pub reads : ReadsMark found mark mark'

-- the mark disk named a side, and what it says was told
pub record Reports (result : Result ℕ CompareStop) (mark mark' : DiskState) (old new : Scene) : Type 0 where
  pub found : Found
  pub finds : Finds (Some found) old.one old.two mark mark'
  pub tells : Tells result found old new

-- when a comparison ends before a side is read, and what that leaves of the mark disk
abbrev pub Refuses : CompareStop → DiskState → DiskState → DiskState → DiskState → Type 0
Refuses (stop.Unequal first second) one two mark mark' = (first ≡ one.sectors) × (second ≡ two.sectors) × (first ≢ second) × (mark' ≡ mark)
Refuses stop.NoMark one two mark mark' = (two.sectors ≡ one.sectors) × (mark.sectors ≡ 0) × (mark' ≡ mark)
Refuses stop.NotMark one two mark mark' = Finds None one two mark mark'
Refuses stop.MarkFailed one two mark mark' = (two.sectors ≡ one.sectors) × (0 < mark.sectors) × IsRun 2 true mark mark' × BothTell Calms mark.contents mark'.contents
Refuses stop.NoMemory one two mark mark' = (found : Found) × Finds (Some found) one two mark mark'
Refuses stop.FirstFailed one two mark mark' = ⊥
Refuses stop.SecondFailed one two mark mark' = ⊥
Refuses stop.SinkFault one two mark mark' = ⊥

-- whether a comparison ended before a side was read
abbrev pub is_refused : Result ℕ CompareStop → Bool
is_refused (Ok count) = false
is_refused (Err stop.FirstFailed) = false
is_refused (Err stop.SecondFailed) = false
is_refused (Err stop.SinkFault) = false
is_refused (Err e) = true
