-- What is done with a keep while no shelf runs over it, and what that leaves.
use Rattle.std.specs.Prelude.{ℕ, ◌≡◌, ◌≢◌, ◌≤◌, ◌<◌, ◌⊎◌, ◌↔◌, Bool, true, false, List, [], ◌∷◌, ◌==◌, length, Option, IfSome, Result, Ok, Err, if◌then◌else◌, codes, decimal}
use Rattle.std.proofs.Math.Bool.{beq}
use Rattle.aoe_base.specs.Faults.{Rose}
use Rattle.aoe_base.specs.declared.failure.Failed.{Failed}
use Rattle.aoe_disk.specs.State.{DiskState}
use Rattle.aoe_io.specs.Bytes.{Took, TookSome}
use Rattle.aoe_keep.specs.Found.{AlwaysFinds, AlwaysFindsFormat, Finds, format_at, format_found, found}
use Rattle.aoe_keep.specs.Keep.{IsRefused, Kept, KeepsOthers, Mounts}
use Rattle.aoe_keep.specs.declared.refusal.MountRefusal.TheVariants as refusal
use Rattle.aoe_lists.specs.Settings.{Settings, empty_settings}
use Rattle.aoe_script.specs.Print.{line_text, lists_words}
use Rattle.aoe_upkeep.specs.declared.change.Part.{Part}
use Rattle.aoe_upkeep.specs.declared.change.Part.TheVariants as part
use Rattle.aoe_upkeep.specs.declared.stop.UpkeepStop.{UpkeepStop}
use Rattle.aoe_upkeep.specs.declared.stop.UpkeepStop.TheVariants as stop

-- the line that shows lists and the number of their format; the lists are spelled as in a transcript
abbrev pub line : ℕ → Settings → List ℕ
line format lists = line_text (codes "format" ∷ decimal format ∷ lists_words lists)

-- A keep was mounted: its disk has these lists in this format, every crash finds them so, and no sector was changed.
pub record Holds (before after : DiskState) (format : ℕ) (lists : Settings) : Type 0 where
  pub mounts : Mounts before after lists
  pub finds : AlwaysFinds after lists
  pub formats : AlwaysFindsFormat after format
  pub stands : IfSome before.contents (λ c. format ≡ format_found c.bytes)

-- ---- show

-- the line was written; or a part of it, from the front on; or nothing was, for want of memory
abbrev pub Says : Result Unit UpkeepStop → Option (List ℕ) → Option (List ℕ) → List ℕ → Type 0
Says (Ok done) held held' text = Took held held' text
Says (Err stop.SinkFault) held held' text = TookSome held held' text
Says (Err stop.NoMemory) held held' text = held' ≡ held
Says (Err stop.Failed) held held' text = ⊥
Says (Err (stop.Keep r)) held held' text = ⊥

-- a keep was mounted, and its line was said so
pub record Shown (says : List ℕ → Type 0) (before after : DiskState) : Type 0 where
  pub format : ℕ
  pub lists : Settings
  pub holds : Holds before after format lists
  pub said : says (line format lists)

-- what `show` writes and leaves, by its end
abbrev pub Shows : {D : Type 0} → (D → DiskState) → Result Unit UpkeepStop → Option (List ℕ) → Option (List ℕ) → D → D → Type 0
Shows state (Ok done) held held' disk disk' = Shown (Says (Ok done) held held') (state disk) (state disk')
Shows state (Err stop.SinkFault) held held' disk disk' = Shown (Says (Err stop.SinkFault) held held') (state disk) (state disk')
Shows state (Err stop.NoMemory) held held' disk disk' = Shown (Says (Err stop.NoMemory) held held') (state disk) (state disk')
Shows state (Err stop.Failed) held held' disk disk' = ⊥
Shows state (Err (stop.Keep r)) held held' disk disk' = IsRefused state disk r disk'

-- ---- changes

-- what a change makes of lists, and in which format they stand after it, by that in which they stood
pub record Change : Type 0 where
  pub lists : Settings → Settings
  pub format : ℕ → Settings → ℕ

-- the lists stay, and stand in format 2
abbrev pub upgrading : Change
upgrading = record { lists = λ lists. lists; format = λ format lists. 2 }

-- the lists with the mark set or clear
abbrev pub marked : Bool → Settings → Settings
marked read_only lists = record lists { read_only = read_only }

-- the mark is set or clear; where it stands so nothing is written, and else the lists are, in format 2
abbrev pub marking : Bool → Change
marking read_only = record {
  lists = marked read_only;
  format = λ format lists. if beq lists.read_only read_only then format else 2;
}

-- a part of what a device keeps is empty
abbrev pub is_clear : Part → Settings → Bool
is_clear part.Config lists = length lists.config == 0
is_clear part.Masks lists = length lists.masks == 0
is_clear part.Reserves lists = length lists.reserves == 0

-- the lists with this part empty
abbrev pub cleared : Part → Settings → Settings
cleared part.Config lists = record lists { config = [] }
cleared part.Masks lists = record lists { masks = [] }
cleared part.Reserves lists = record lists { reserves = [] }

-- the part is emptied; where it is empty nothing is written, and else the lists are, in format 2
abbrev pub clearing : Part → Change
clearing part = record {
  lists = cleared part;
  format = λ format lists. if is_clear part lists then format else 2;
}

-- what a new keep has: empty lists, in format 2
abbrev pub creating : Change
creating = record { lists = λ lists. empty_settings; format = λ format lists. 2 }

-- a keep that has just these
abbrev pub IsNew : {D : Type 0} → Kept D → Type 0
IsNew keep = (keep.lists ≡ empty_settings) × (format_at keep.place ≡ 2)

-- A keep was mounted and changed: every crash finds the lists and the format that the change makes. Where it makes nothing new no device
-- call is made.
pub record Changed (change : Change) (before after : DiskState) : Type 0 where
  pub mounted : DiskState
  pub format : ℕ
  pub lists : Settings
  pub holds : Holds before mounted format lists
  pub finds : AlwaysFinds after (change.lists lists)
  pub formats : AlwaysFindsFormat after (change.format format lists)
  pub others : KeepsOthers mounted after
  pub still : change.lists lists ≡ lists → change.format format lists ≡ format → after ≡ mounted

-- A keep was mounted, and a call failed while its lists were written: every crash finds those from before or those that the change makes.
pub record Interrupted (change : Change) (before after : DiskState) : Type 0 where
  pub mounted : DiskState
  pub format : ℕ
  pub lists : Settings
  pub holds : Holds before mounted format lists
  pub finds : IfSome after.contents (Finds (λ l. (l ≡ lists) ⊎ (l ≡ change.lists lists)))
  pub others : KeepsOthers mounted after

-- what a change leaves, by its end
abbrev pub Changes : {D : Type 0} → (D → DiskState) → Change → Result Unit UpkeepStop → D → D → Type 0
Changes state change (Ok done) disk disk' = Changed change (state disk) (state disk')
Changes state change (Err stop.Failed) disk disk' = Interrupted change (state disk) (state disk')
Changes state change (Err stop.SinkFault) disk disk' = ⊥
Changes state change (Err stop.NoMemory) disk disk' = ⊥
Changes state change (Err (stop.Keep r)) disk disk' = IsRefused state disk r disk'

abbrev pub ended_by : Result Unit Failed → Result Unit UpkeepStop
ended_by (Ok done) = Ok tt
ended_by (Err failed) = Err stop.Failed

-- ---- causes

-- a disk is said to have failed
abbrev pub is_disk_fault : Result Unit UpkeepStop → Bool
is_disk_fault (Err stop.Failed) = true
is_disk_fault (Err (stop.Keep refusal.Failed)) = true
is_disk_fault e = false

-- A keep is refused exactly for its causes, and a disk that is said to have failed did.
pub record IsCaused {D : Type 0} (state : D → DiskState) (ended : Result Unit UpkeepStop) (disk disk' : D) : Type 0 where
  pub small : (sectors : ℕ) → (ended ≡ Err (stop.Keep (refusal.TooSmall sectors))) ↔ (((state disk).sectors ≡ sectors) × (sectors < 16))
  pub bad : (slot : ℕ) → IfSome (state disk).contents (λ c. (ended ≡ Err (stop.Keep (refusal.BadKeep slot)))
      ↔ ((16 ≤ (state disk).sectors) × (found c.bytes ≡ Err slot) × (ended ≢ Err (stop.Keep refusal.Failed))))
  pub failed : is_disk_fault ended ≡ true → Rose (state disk).faults (state disk').faults
