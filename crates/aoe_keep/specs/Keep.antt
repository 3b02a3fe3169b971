-- A keep, and what its calls come to.
use Rattle.std.specs.Prelude.{◌≡◌, ◌≤◌, ◌<◌, ℕ, Bool, true, false, Option, IfSome, Result, Ok, Err}
use Rattle.aoe_lists.specs.Settings.{Settings}
use Rattle.aoe_disk.specs.State.{DiskState, Contents, BothTell}
use Rattle.aoe_disk.specs.Calls.{IsRun, Settles}
use Rattle.aoe_disk.specs.Sectors.{Calms, Touches}
use Rattle.aoe_keep.specs.Body.{format_2}
use Rattle.aoe_keep.specs.Found.{found, placement, slot, AlwaysFinds, AlwaysFindsFormat}
use Rattle.aoe_keep.specs.Stages.{IsKept, IsCleared, IsStaged, IsInterrupted, IsReplaced}
use Rattle.aoe_keep.specs.declared.mounted.Mounted.{Mounted}
use Rattle.aoe_keep.specs.declared.mount.Present.{Present}
use Rattle.aoe_keep.specs.declared.place.Place.{Place}
use Rattle.aoe_keep.specs.declared.refusal.MountRefusal.{MountRefusal}
use Rattle.aoe_keep.specs.declared.refusal.MountRefusal.TheVariants.{Failed, TooSmall, BadKeep}

-- what a keep shows: its disk, the lists that it keeps there, the slot where these stand with the turn and the format of its body, if
-- they stand in one, and whether the gate of the other slot is known to be closed
pub record Kept (D : Type 0) : Type 0 where
  pub disk : D
  pub lists : Settings
  pub place : Option Place
  pub is_closed : Bool

-- of a disk that tells its contents: all but the 16 sectors of a keep are as they were, and none of them is newly loose
pub record KeepsOthers (old new : DiskState) : Type 0 where
  pub contents : BothTell (Touches 0 16) old.contents new.contents

-- what a keep knows of its disk between two replacements
pub record IsAtRest {D : Type 0} (state : D → DiskState) (k : Mounted D) : Type 0 where
  pub room : 16 ≤ (state k.disk).sectors
  pub disk : IfSome (state k.disk).contents (IsKept k.place k.is_closed k.lists)

pub record HasCleared {D : Type 0} (state : D → DiskState) (k : Mounted D) : Type 0 where
  pub room : 16 ≤ (state k.disk).sectors
  pub closed : k.is_closed ≡ true
  pub disk : IfSome (state k.disk).contents (IsCleared k.place k.lists)

pub record HasStaged {D : Type 0} (state : D → DiskState) (next : Settings) (k : Mounted D) : Type 0 where
  pub room : 16 ≤ (state k.disk).sectors
  pub disk : IfSome (state k.disk).contents (IsStaged k.place k.lists next)

pub record HasOpened {D : Type 0} (state : D → DiskState) (next : Settings) (k : Mounted D) : Type 0 where
  pub room : 16 ≤ (state k.disk).sectors
  pub disk : IfSome (state k.disk).contents (IsReplaced k.place next)

-- opening failed: a crash finds the present lists or the next ones, whatever it could find before
pub record HasHalfOpened {D : Type 0} (state : D → DiskState) (next : Settings) (k : Mounted D) : Type 0 where
  pub room : 16 ≤ (state k.disk).sectors
  pub disk : IfSome (state k.disk).contents (λ c. (before : Contents) → IsInterrupted k.place k.is_closed k.lists next before c)

-- the next lists are the keep's, and every crash finds them
pub record HasReplaced {D : Type 0} (state : D → DiskState) (next : Settings) (k : Mounted D) : Type 0 where
  pub lists : k.lists ≡ next
  pub mounted : IsAtRest state k
  pub finds : AlwaysFinds (state k.disk) next
  pub format : AlwaysFindsFormat (state k.disk) format_2.number

-- a call of the disk failed on the way to the next lists
pub record HasFailed {D : Type 0} (state : D → DiskState) (next : Settings) (old new : Mounted D) : Type 0 where
  pub lists : new.lists ≡ old.lists
  pub room : 16 ≤ (state new.disk).sectors
  pub disk : BothTell (IsInterrupted new.place new.is_closed new.lists next) (state old.disk).contents (state new.disk).contents

-- the device calls of a mounting: a sync, a read of each gate, and a read of each body behind an open gate
pub record RunsBetween (least most : ℕ) (failed : Bool) (old new : DiskState) : Type 0 where
  pub calls : ℕ
  pub low : least ≤ calls
  pub high : calls ≤ most
  pub run : IsRun calls failed old new

-- a mounting that gave lists: they stand on the disk, which was synced and is otherwise as it was
pub record Mounts (old new : DiskState) (lists : Settings) : Type 0 where
  pub room : 16 ≤ new.sectors
  pub stands : BothTell (λ a b. (found a.bytes ≡ Ok lists) × Settles a b) old.contents new.contents
  pub run : RunsBetween 3 5 false old new

-- a keep that was mounted: these lists stand on its disk, and every crash finds them
pub record HasMounted (before after : DiskState) (lists : Settings) : Type 0 where
  pub mounts : Mounts before after lists
  pub finds : AlwaysFinds after lists

-- a mounting that was refused
abbrev pub IsRefused : {D : Type 0} → (D → DiskState) → D → MountRefusal → D → Type 0
IsRefused state disk (TooSmall sectors) left = ((state disk).sectors ≡ sectors) × (sectors < 16) × (left ≡ disk)
IsRefused state disk Failed left =
    (16 ≤ (state disk).sectors) × BothTell Calms (state disk).contents (state left).contents × RunsBetween 1 5 true (state disk) (state left)
IsRefused state disk (BadKeep k) left =
    (16 ≤ (state disk).sectors) × BothTell (λ a b. (found a.bytes ≡ Err k) × Settles a b) (state disk).contents (state left).contents
    × RunsBetween 3 5 false (state disk) (state left)

-- what was read of a disk that was synced: the present lists with their place, or the slot that is bad
abbrev pub ReadsSlots : Result Present ℕ → Contents → Contents → Type 0
ReadsSlots (Ok p) a b =
    (found a.bytes ≡ Ok p.lists) × Settles a b × IsKept p.place p.is_closed p.lists b × (placement (slot a.bytes 0) (slot a.bytes 1) ≡ (p.place, p.is_closed))
ReadsSlots (Err k) a b = (found a.bytes ≡ Err k) × Settles a b
