-- A disk of a slot is armed.
use Rattle.std.specs.Prelude.{ℕ, Option, Some, None}
use Rattle.aoe_cache.specs.Any.{any_state, any_under}
use Rattle.aoe_cache.specs.declared.any.AnyStore.{AnyStore}
use Rattle.aoe_disk.specs.State.{BothTell}
use Rattle.aoe_disk.specs.declared.armed.Arm.{Arm}
use Rattle.aoe_disk.specs.declared.armed.Arm.TheVariants.{Fail, Stop}
use Rattle.aoe_disk.specs.declared.loss.Loss.{Loss}
use Rattle.aoe_disk.specs.Memory.{state_of, Memory}
use Rattle.aoe_shelf.specs.Calls.{ArmsKeep, ArmsStore}
use Rattle.aoe_store.specs.Under.{ArmsUnder}
use Rattle.aoe_target.specs.Mounted.{Mounted}
use Rattle.aoe_script.specs.declared.event.Which.{Which}
use Rattle.aoe_script.specs.declared.event.Which.TheVariants.{Store, Keep}
use Rattle.aoe_sim_shelves.specs.declared.shelf.Stops.{Stops}

-- a disk is armed for its k-th call: the call fails, or the power is lost in it
abbrev pub arm_of : ℕ → Option Loss → Arm
arm_of k None = Fail k
arm_of k (Some how) = Stop k

-- one of the two disks of a target is armed
abbrev pub ArmsDisk : Which → Arm → Mounted (AnyStore Memory) Memory → Mounted (AnyStore Memory) Memory → Type 0
ArmsDisk Store arm before after =
    ArmsStore (any_state state_of) arm before after × BothTell (ArmsUnder arm) (any_under state_of before.store) (any_under state_of after.store)
ArmsDisk Keep arm before after = ArmsKeep state_of arm before after

-- and this is what its stop leaves, where it is a stop
abbrev pub with_stop : Which → Option Loss → Stops → Stops
with_stop Store mode stops = record stops { store = mode }
with_stop Keep mode stops = record stops { keep = mode }
