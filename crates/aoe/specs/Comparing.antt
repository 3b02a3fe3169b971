-- A run of `mirror --check`, by its status. Its disks are the sides 0 and 1 of a mirror, and 2 that says which side leads.
use Rattle.std.specs.Prelude.{ℕ, ◌≡◌, ◌≤◌, ◌<◌, ◌==◌, ◌↔◌, Bool, true, false, List, [], ◌∷◌, Option, None, Some, IfErr, IfSome, Result, Ok, Err, if◌then◌else◌}
use Rattle.aoe_base.specs.Faults.{Rose}
use Rattle.aoe_disk.specs.State.{Contents, DiskState}
use Rattle.aoe_mirror.specs.Mirror.{ReadsMark}
use Rattle.aoe_mirror.specs.Sides.{both}
use Rattle.aoe_upkeep.specs.Comparing.{AreEqual, Refuses, Reports, Scene, count_of, differs, is_refused}
use Rattle.aoe_upkeep.specs.declared.stop.CompareStop.{CompareStop}
use Rattle.aoe_upkeep.specs.declared.stop.CompareStop.TheVariants as stop
use Rattle.aoe.specs.Mirror.{HasSides}
use Rattle.aoe.specs.declared.compare.Compared.{Compared}
use Rattle.aoe.specs.declared.status.Status.{Status}
use Rattle.aoe.specs.declared.status.Status.TheVariants as status

-- the disks in the order of the files' names
abbrev pub three_of : {D : Type 0} → Compared D → List (Option D)
three_of disks = Some disks.one ∷ Some disks.two ∷ Some disks.mark ∷ []

-- how many sectors differ is told where some do
abbrev pub differ_or_ok : ℕ → Status
differ_or_ok sectors = if sectors == 0 then status.Ok else status.Differ sectors

-- the status of a comparison that ended so
abbrev pub compared_as : Result ℕ CompareStop → Status
compared_as (Ok sectors) = differ_or_ok sectors
compared_as (Err (stop.Unequal first second)) = status.MirrorSides first second
compared_as (Err stop.NoMark) = status.MirrorMark
compared_as (Err stop.NotMark) = status.NotMark
compared_as (Err stop.FirstFailed) = status.DiskFault 0
compared_as (Err stop.SecondFailed) = status.DiskFault 1
compared_as (Err stop.MarkFailed) = status.DiskFault 2
compared_as (Err stop.SinkFault) = status.SinkFault
compared_as (Err stop.NoMemory) = status.NoMemory

-- the statuses that it can end with
abbrev pub is_compare_status : Status → Bool
is_compare_status status.Ok = true
is_compare_status (status.Differ sectors) = true
is_compare_status (status.MirrorSides first second) = true
is_compare_status status.MirrorMark = true
is_compare_status status.NotMark = true
is_compare_status (status.DiskFault disk) = true
is_compare_status status.SinkFault = true
is_compare_status status.NoMemory = true
is_compare_status s = false

-- the sides of a comparison, and what its sink took by then
abbrev pub seen : {D : Type 0} → (D → DiskState) → Compared D → Option (List ℕ) → Scene
seen state disks held = record { one = state disks.one; two = state disks.two; held = held }

-- the count of faults of the disk with this number
abbrev pub count_at : {D : Type 0} → (D → DiskState) → Compared D → ℕ → ℕ
count_at state disks disk = if disk == 2 then (state disks.mark).faults else if disk == 1 then (state disks.two).faults else (state disks.one).faults

-- no sector of either side was changed
pub record SameSectors {D : Type 0} (state : D → DiskState) (given back : Compared D) : Type 0 where
  pub one : (state back.one).contents ≡ (state given.one).contents
  pub two : (state back.two).contents ≡ (state given.two).contents

-- of two sides that tell their sectors so many differ
abbrev pub DifferIn : {D : Type 0} → (D → DiskState) → Compared D → ℕ → Type 0
DifferIn state disks sectors = IfSome (both (state disks.one).contents (state disks.two).contents)
    (λ (sides : Contents × Contents). sectors ≡ count_of (differs sides) (state disks.one).sectors)

-- of two sides that tell their sectors none differs
abbrev pub DifferNowhere : {D : Type 0} → (D → DiskState) → Compared D → Type 0
DifferNowhere state disks = IfSome (both (state disks.one).contents (state disks.two).contents)
    (λ (sides : Contents × Contents). AreEqual (differs sides) 0 (state disks.one).sectors)

-- nothing was read of the sides, and nothing written
pub record IsUncompared {D : Type 0} (state : D → DiskState) (why : CompareStop) (given back : Compared D) (held held' : Option (List ℕ)) : Type 0 where
  pub refuses : Refuses why (state given.one) (state given.two) (state given.mark) (state back.mark)
  pub one : back.one ≡ given.one
  pub two : back.two ≡ given.two
  pub unwritten : held' ≡ held

-- What a comparison reads, tells and leaves. Where a side was read, the sink took what was found, or a part of it. Sides and a mark disk are
-- refused exactly for their causes, and a disk that is said to have failed did.
pub record RunsCompare {D : Type 0} (state : D → DiskState) (s : Status) (held held' : Option (List ℕ)) (disks disks' : List (Option D)) : Type 0 where
  pub given : Compared D
  pub back : Compared D
  pub were : disks ≡ three_of given
  pub are : disks' ≡ three_of back
  pub ended : Result ℕ CompareStop
  pub ends : s ≡ compared_as ended
  pub reports : is_refused ended ≡ false → Reports ended (state given.mark) (state back.mark) (seen state given held) (seen state back held')
  pub refuses : IfErr ended (λ why. is_refused ended ≡ true → IsUncompared state why given back held held')
  pub same : SameSectors state given back
  pub equal : s ≡ status.Ok → DifferNowhere state given
  pub differ : (sectors : ℕ) → s ≡ status.Differ sectors → (0 < sectors) × DifferIn state given sectors
  pub unequal : (first second : ℕ) → (s ≡ status.MirrorSides first second) ↔ HasSides (state given.one) (state given.two) first second
  pub unmarked : (s ≡ status.MirrorMark) ↔ (((state given.two).sectors ≡ (state given.one).sectors) × ((state given.mark).sectors ≡ 0))
  pub other : s ≡ status.NotMark → ReadsMark None (state given.mark) (state back.mark)
  pub blames : (disk : ℕ) → s ≡ status.DiskFault disk → (disk ≤ 2) × Rose (count_at state given disk) (count_at state back disk)
