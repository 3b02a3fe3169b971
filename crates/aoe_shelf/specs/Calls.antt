-- What the calls of a shelf do to the target that they are for.
use Rattle.std.specs.Prelude.{◌≡◌, List, [], ◌∷◌, ◌++◌, Option, Some, None, Result}
use Rattle.aoe_disk.specs.Arming.{ArmsTo}
use Rattle.aoe_disk.specs.Calls.{SyncsTo}
use Rattle.aoe_disk.specs.State.{DiskState}
use Rattle.aoe_disk.specs.declared.armed.Arm.{Arm}
use Rattle.aoe_keep.specs.Keep.{Kept}
use Rattle.aoe_target.specs.Mounted.{Mounted}

-- the store is synced, or the sync failed
pub record SyncsStore {S D T E : Type 0} (store : S → DiskState) (result : Result T E) (before after : Mounted S D) : Type 0 where
  pub syncs : SyncsTo result (store before.store) (store after.store)
  pub rest : after ≡ record before { store = after.store }

-- the disk of the store is armed
pub record ArmsStore {S D : Type 0} (store : S → DiskState) (arm : Arm) (before after : Mounted S D) : Type 0 where
  pub arms : ArmsTo arm (store before.store) (store after.store)
  pub rest : after ≡ record before { store = after.store }

-- the disk of the keep is armed, and the lists stay
pub record ArmsKeep {S D : Type 0} (keep : D → DiskState) (arm : Arm) (before after : Mounted S D) : Type 0 where
  pub arms : ArmsTo arm (keep before.keep.disk) (keep after.keep.disk)
  pub lists : after.keep.lists ≡ before.keep.lists
  pub rest : after ≡ record before { keep = after.keep }

-- the last target leaves, and its store and keep are given; nothing, where there is none
abbrev pub TakesLast : {S D : Type 0} → Option (S × Kept D) → List (Mounted S D) → List (Mounted S D) → Type 0
TakesLast None before after = (before ≡ []) × (after ≡ [])
TakesLast {S} {D} (Some given) before after = (t : Mounted S D) × (before ≡ after ++ t ∷ []) × (given ≡ (t.store, t.keep))
