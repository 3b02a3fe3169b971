-- A run of `mirror`, by its status. Its disks are the sides 0 and 1, 2 that says which side leads, and 3 the keep.
use Rattle.std.specs.Prelude.{ℕ, ◌≡◌, ◌≢◌, ◌≤◌, ◌<◌, ◌==◌, ◌&&◌, ◌⊎◌, ◌↔◌, Bool, not, true, false, List, [], ◌∷◌, Option, None, Some, IfOk, IfErr, IfSome, Result, if◌then◌else◌}
use Rattle.aoe_base.specs.Faults.{Rose}
use Rattle.aoe_disk.specs.State.{Contents, DiskState}
use Rattle.aoe_mirror.specs.Clean.{AreEqual, SaysTruly, TellAlike}
use Rattle.aoe_mirror.specs.Marks.{count_of}
use Rattle.aoe_mirror.specs.Mirror.{ReadsMark}
use Rattle.aoe_mirror.specs.Sides.{both}
use Rattle.aoe_serve.specs.Exporting.{Outside, Tells}
use Rattle.aoe_serve.specs.Mirroring.{AreEqualBut, IsMirrored, SameSides, Stops, faults_of}
use Rattle.aoe_serve.specs.declared.over_mirror.MirrorDisks.{MirrorDisks}
use Rattle.aoe_serve.specs.declared.over_mirror.MirrorEnd.{MirrorEnd}
use Rattle.aoe_serve.specs.declared.over_mirror.MirrorStop.{MirrorStop}
use Rattle.aoe_serve.specs.declared.plan.Plan.{Plan}
use Rattle.aoe_serve.specs.declared.plan.Plan.TheVariants as plan
use Rattle.aoe_args.specs.declared.command.Mirror.{Mirror}
use Rattle.aoe.specs.Commands.{mirror_options, mirror_plan, target_of}
use Rattle.aoe.specs.Ending.{mirrored_as}
use Rattle.aoe.specs.declared.status.Status.{Status}
use Rattle.aoe.specs.declared.status.Status.TheVariants as status

-- the disks in the order of the files' names
abbrev pub four_of : {D : Type 0} → MirrorDisks D → List (Option D)
four_of disks = Some disks.one ∷ Some disks.two ∷ Some disks.mark ∷ Some disks.keep ∷ []

-- The disks of a mirror as they are handed in: the third says that both sides are equal only where they are, as each run leaves it and each
-- crash of one.
abbrev pub AreTold : {D : Type 0} → (D → DiskState) → List (Option D) → Type 0
AreTold {D} state disks = (given : MirrorDisks D) → disks ≡ four_of given
    → SaysTruly (state given.one) (state given.two) (state given.mark) × TellAlike (state given.one) (state given.two) (state given.mark)

-- the count of faults of the disk with this number
abbrev pub faults_at : {D : Type 0} → (D → DiskState) → MirrorDisks D → ℕ → ℕ
faults_at state disks disk = if disk == 3 then (state disks.keep).faults else faults_of state disks disk

-- how a run over a mirror can end: by a link that is served, or of streams
abbrev pub is_mirror_status : Bool → Status → Bool
is_mirror_status is_served status.Ok = true
is_mirror_status is_served status.SourceFault = not is_served
is_mirror_status is_served status.SinkFault = not is_served
is_mirror_status is_served (status.Stream offset) = not is_served
is_mirror_status is_served (status.Limit excess) = not is_served
is_mirror_status is_served (status.LinkFault link) = is_served && link == 0
is_mirror_status is_served (status.DiskFault disk) = true
is_mirror_status is_served (status.KeepSmall disk sectors) = true
is_mirror_status is_served (status.KeepBad disk slot) = true
is_mirror_status is_served status.NoMemory = true
is_mirror_status is_served (status.MirrorSides first second) = true
is_mirror_status is_served status.MirrorMark = true
is_mirror_status is_served status.NotMark = true
is_mirror_status is_served (status.Stale file sectors) = true
is_mirror_status is_served s = false

-- what a run doesn't touch: the links beside streams, the streams beside a link
abbrev pub LeavesOthers : {S K L : Type 0} → Plan → Outside S K L → Outside S K L → Type 0
LeavesOthers (plan.Answer format) a b = b.links ≡ a.links
LeavesOthers (plan.Serve frames idle) a b = (b.source ≡ a.source) × (b.sink ≡ a.sink)

-- the keep was refused
abbrev pub is_kept_out : Status → Bool
is_kept_out (status.DiskFault disk) = disk == 3
is_kept_out (status.KeepSmall disk sectors) = true
is_kept_out (status.KeepBad disk slot) = true
is_kept_out s = false

-- the keep was mounted
abbrev pub ComesToSides : Status → Type 0
ComesToSides s = is_kept_out s ≡ false

-- sides of different sizes
abbrev pub HasSides : DiskState → DiskState → ℕ → ℕ → Type 0
HasSides one two first second = (first ≡ one.sectors) × (second ≡ two.sectors) × (first ≢ second)

-- two sides that are equal but for so many sectors
abbrev pub LeavesStale : ℕ → Option (Contents × Contents) → Type 0
LeavesStale sectors sides = (stale : List Bool) × (count_of stale ≡ sectors) × IfSome sides (AreEqualBut stale)

-- What a run over a mirror takes, gives and leaves. Where nothing was run, nothing was read or written; each disk is as the cause says.
pub record RunsMirror {D S K L : Type 0} (state : D → DiskState) (asked : Mirror) (t : Tells S K L) (s : Status) (a b : Outside S K L)
    (disks disks' : List (Option D)) : Type 0 where
  pub given : MirrorDisks D
  pub back : MirrorDisks D
  pub were : disks ≡ four_of given
  pub are : disks' ≡ four_of back
  pub answer : Result MirrorEnd MirrorStop
  pub ends : s ≡ mirrored_as answer
  pub ran : IfOk answer (λ e. IsMirrored state (target_of (mirror_options asked) asked.id.minor) t (mirror_plan asked) e a b given back)
  pub stopped : IfErr answer (λ why. Stops state why given back × (b.source ≡ a.source) × (b.sink ≡ a.sink) × (b.links ≡ a.links))
  -- exactly when sides and a mark disk are refused
  pub unequal : (first second : ℕ)
      → (s ≡ status.MirrorSides first second) ↔ (HasSides (state given.one) (state given.two) first second × ComesToSides s)
  pub unmarked : (s ≡ status.MirrorMark)
      ↔ (((state given.two).sectors ≡ (state given.one).sectors) × ((state given.mark).sectors ≡ 0) × ComesToSides s)
  -- what is no mark is refused, and stays; a mirror that was run had a mark
  pub other : s ≡ status.NotMark → SameSides given back × ReadsMark None (state given.mark) (state back.mark)
  -- a disk that is said to have failed did
  pub blames : (disk : ℕ) → s ≡ status.DiskFault disk → (disk ≤ 3) × Rose (faults_at state given disk) (faults_at state back disk)
  -- where all went well, the sides are equal and settled
  pub equal : s ≡ status.Ok → IfSome (both (state back.one).contents (state back.two).contents) AreEqual
  -- where sectors are told as stale, they are equal and settled but for so many sectors, and one of them failed
  pub stale : (file sectors : ℕ) → s ≡ status.Stale file sectors → (file ≤ 1) × (0 < sectors)
      × LeavesStale sectors (both (state back.one).contents (state back.two).contents)
      × (Rose (state given.one).faults (state back.one).faults ⊎ Rose (state given.two).faults (state back.two).faults)
