-- A run of `keep`, by its status. Its one disk is the keep of a slot that no shelf serves.
use Rattle.std.specs.Prelude.{ℕ, ◌≡◌, ◌≢◌, ◌≤◌, ◌<◌, ◌↔◌, List, [], ◌∷◌, Option, Some, IfSome, Result, Ok, Err, true, false}
use Rattle.aoe_base.specs.Faults.{Rose}
use Rattle.aoe_disk.specs.State.{DiskState}
use Rattle.aoe_keep.specs.Found.{found}
use Rattle.aoe_keep.specs.declared.refusal.MountRefusal.{MountRefusal}
use Rattle.aoe_keep.specs.declared.refusal.MountRefusal.TheVariants as refusal
use Rattle.aoe_upkeep.specs.Upkeep.{Changes, Shows, clearing, creating, marking, upgrading}
use Rattle.aoe_upkeep.specs.declared.change.Part.TheVariants as part
use Rattle.aoe_upkeep.specs.declared.stop.UpkeepStop.{UpkeepStop}
use Rattle.aoe_upkeep.specs.declared.stop.UpkeepStop.TheVariants as stop
use Rattle.aoe_args.specs.declared.command.KeepAction.{KeepAction}
use Rattle.aoe_args.specs.declared.command.KeepAction.TheVariants as action
use Rattle.aoe.specs.declared.status.Status.{Status}
use Rattle.aoe.specs.declared.status.Status.TheVariants as status

-- the status of a run in which the keep on the only disk was refused
abbrev pub refused_alone : MountRefusal → Status
refused_alone refusal.Failed = status.DiskFault 0
refused_alone (refusal.TooSmall sectors) = status.KeepSmall 0 sectors
refused_alone (refusal.BadKeep slot) = status.KeepBad 0 slot

-- the status of a run that ended so
abbrev pub upkept_as : Result Unit UpkeepStop → Status
upkept_as (Ok done) = status.Ok
upkept_as (Err (stop.Keep r)) = refused_alone r
upkept_as (Err stop.Failed) = status.DiskFault 0
upkept_as (Err stop.NoMemory) = status.NoMemory
upkept_as (Err stop.SinkFault) = status.SinkFault

-- what is done with the keep: its line is written; or it is changed, and nothing is written
abbrev pub Acts : {D : Type 0} → (D → DiskState) → KeepAction → Result Unit UpkeepStop → Option (List ℕ) → Option (List ℕ) → D → D → Type 0
Acts state action.Show ended held held' disk disk' = Shows state ended held held' disk disk'
Acts state action.Upgrade ended held held' disk disk' = Changes state upgrading ended disk disk' × (held' ≡ held)
Acts state action.Lock ended held held' disk disk' = Changes state (marking true) ended disk disk' × (held' ≡ held)
Acts state action.Unlock ended held held' disk disk' = Changes state (marking false) ended disk disk' × (held' ≡ held)
Acts state action.Create ended held held' disk disk' = Changes state creating ended disk disk' × (held' ≡ held)
Acts state action.ClearConfig ended held held' disk disk' = Changes state (clearing part.Config) ended disk disk' × (held' ≡ held)
Acts state action.ClearMasks ended held held' disk disk' = Changes state (clearing part.Masks) ended disk disk' × (held' ≡ held)
Acts state action.ClearReserves ended held held' disk disk' = Changes state (clearing part.Reserves) ended disk disk' × (held' ≡ held)

-- a keep of fewer than 16 sectors
abbrev pub IsTooSmall : DiskState → ℕ → Type 0
IsTooSmall keep sectors = (keep.sectors ≡ sectors) × (sectors < 16)

-- What a run writes and leaves. A keep is refused exactly for its causes, and a disk that is said to have failed did.
pub record RunsKeep {D : Type 0} (state : D → DiskState) (asked : KeepAction) (s : Status) (held held' : Option (List ℕ)) (disks disks' : List (Option D))
    : Type 0 where
  pub given : D
  pub back : D
  pub were : disks ≡ Some given ∷ []
  pub are : disks' ≡ Some back ∷ []
  pub ended : Result Unit UpkeepStop
  pub ends : s ≡ upkept_as ended
  pub acts : Acts state asked ended held held' given back
  pub small : (sectors : ℕ) → (s ≡ status.KeepSmall 0 sectors) ↔ IsTooSmall (state given) sectors
  pub bad : (slot : ℕ) → IfSome (state given).contents (λ c. (s ≡ status.KeepBad 0 slot)
      ↔ ((16 ≤ (state given).sectors) × (found c.bytes ≡ Err slot) × (ended ≢ Err (stop.Keep refusal.Failed))))
  pub blames : (disk : ℕ) → s ≡ status.DiskFault disk → (disk ≡ 0) × Rose (state given).faults (state back).faults
