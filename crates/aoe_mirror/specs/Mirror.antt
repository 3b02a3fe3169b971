-- A mirror as its users see it, and what mounting one finds.
use Rattle.std.specs.Prelude.{◌≡◌, ◌≤◌, ◌<◌, ◌==◌, ◌⊎◌, ℕ, Bool, false, true, not, Option, None, Some, IfSome, List, length, replicate, if◌then◌else◌}
use Rattle.aoe_base.specs.Sizes.{scratch_bytes}
use Rattle.aoe_disk.specs.State.{BothTell, Contents, DiskState, sector}
use Rattle.aoe_disk.specs.Calls.{IsRun}
use Rattle.aoe_disk.specs.Sectors.{Calms}
use Rattle.aoe_mirror.specs.Clean.{IsMarked, Says, clean_at, clean_in}
use Rattle.aoe_mirror.specs.Sides.{IsMirror, Names, Pair, mark_in, pair_of, shown, side_in}
use Rattle.aoe_mirror.specs.declared.clean.Found.{Found}
use Rattle.aoe_mirror.specs.declared.sides.Sides.{Sides}
use Rattle.aoe_mirror.specs.declared.refusal.MirrorRefusal.{MirrorRefusal}
use Rattle.aoe_mirror.specs.declared.refusal.MirrorRefusal.TheVariants.{Failed, NoMark, NoMemory, NotMark, Unequal}

-- its disks, the lowest disk that failed in its latest sync, the sector from which on the next copy looks for stale ones, and whether the
-- mark disk may say that it is clean
pub record Mirrored (D : Type 0) : Type 0 where
  pub sides : Sides D
  pub failed : Option ℕ
  pub next : ℕ
  pub clean : Bool

abbrev pub pair : {D : Type 0} → (D → DiskState) → Mirrored D → Pair
pair state m = pair_of state m.sides

-- the mirror as a store
abbrev pub state_of : {D : Type 0} → (D → DiskState) → Mirrored D → DiskState
state_of state m = shown (pair_of state m.sides)

-- side 0 and side 1
abbrev pub first_of : {D : Type 0} → Sides D → D
first_of s = if s.side == 1 then s.follower else s.lead

abbrev pub second_of : {D : Type 0} → Sides D → D
second_of s = if s.side == 1 then s.lead else s.follower

-- a mark disk is a mark that names a side and says whether the mirror is clean; or one of its first two sectors is none
abbrev pub FindsMark : Option Found → Contents → Type 0
FindsMark (Some found) mark = Names found.side mark × Says found.is_clean mark
FindsMark None mark = (mark_in mark.bytes ≡ None) ⊎ (clean_at mark.bytes ≡ None)

-- what two sectors say that are a mark together
abbrev pub found_in : Option ℕ → Option Bool → Option Found
found_in None clean = None
found_in (Some side) None = None
found_in (Some side) (Some clean) = Some (record { side = side; is_clean = clean })

-- what is read on a mark disk
pub record Sees (found : Option Found) (mark : DiskState) : Type 0 where
  pub side : IfSome found (λ (f : Found). f.side ≤ 1)
  pub room : IfSome found (λ (f : Found). f.is_clean ≡ true → 1 < mark.sectors)
  pub read : IfSome mark.contents (λ (c : Contents). found ≡ found_in (side_in (sector c.bytes 0)) (clean_in (sector c.bytes 1)))

-- a mark disk that was synced and read, and holds a mark of a side or none
pub record ReadsMark (found : Option Found) (old new : DiskState) : Type 0 where
  pub run : IsRun 2 false old new
  pub calm : BothTell Calms old.contents new.contents
  pub side : IfSome found (λ (f : Found). f.side ≤ 1)
  pub room : IfSome found (λ (f : Found). f.is_clean ≡ true → 1 < new.sectors)
  pub names : IfSome new.contents (FindsMark found)

-- The side that the mark disk names leads. All of the other one is stale, or nothing where the mark disk says that the mirror is clean.
pub record Mounts {D : Type 0} (state : D → DiskState) (one two mark : D) (s : Sides D) : Type 0 where
  pub size : (state two).sectors ≡ (state one).sectors
  pub room : 0 < (state mark).sectors
  pub side_one : first_of s ≡ one
  pub side_two : second_of s ≡ two
  pub clean : Bool
  pub reads : ReadsMark (Some (record { side = s.side; is_clean = clean })) (state mark) (state s.mark)
  pub stale : s.stale ≡ replicate (state one).sectors (not clean)
  pub settled : s.settled ≡ true

-- when each refusal comes, and what it leaves of the mark disk
abbrev pub Refuses : MirrorRefusal → DiskState → DiskState → DiskState → DiskState → Type 0
Refuses (Unequal first second) one two mark mark' = (first ≡ one.sectors) × (second ≡ two.sectors) × (first ≡ second → ⊥) × (mark' ≡ mark)
Refuses NoMark one two mark mark' = (two.sectors ≡ one.sectors) × (mark.sectors ≡ 0) × (mark' ≡ mark)
Refuses NotMark one two mark mark' = (two.sectors ≡ one.sectors) × (0 < mark.sectors) × ReadsMark None mark mark'
Refuses Failed one two mark mark' = (two.sectors ≡ one.sectors) × (0 < mark.sectors) × IsRun 2 true mark mark' × BothTell Calms mark.contents mark'.contents
Refuses NoMemory one two mark mark' = (two.sectors ≡ one.sectors) × (0 < mark.sectors) × (found : Found) × ReadsMark (Some found) mark mark'

-- what the fields of a mirror keep
pub record IsMounted {D : Type 0} (state : D → DiskState) (s : Sides D) (clean : Bool) (room : List ℕ) : Type 0 where
  pub mirror : IsMirror (pair_of state s)
  pub marked : IsMarked clean (pair_of state s)
  pub scratch : length room ≡ scratch_bytes
