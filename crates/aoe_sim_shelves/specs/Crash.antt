-- What a loss of power leaves of a shelf over disks in memory.
use Rattle.std.specs.Prelude.{ℕ, ◌≡◌, List, [], ◌∷◌, length, slice_get, Some}
use Rattle.aoe_cache.specs.Cache.{seen_contents, Cache}
use Rattle.aoe_cache.specs.Free.{KeepsSettled}
use Rattle.aoe_cache.specs.declared.any.AnyStore.{AnyStore}
use Rattle.aoe_cache.specs.declared.any.AnyStore.TheVariants.{Direct, Cached}
use Rattle.aoe_disk.specs.Loss.{IsLeft}
use Rattle.aoe_disk.specs.Memory.{contents_of, fresh, state_of, Memory}
use Rattle.aoe_disk.specs.State.{CanLeave}
use Rattle.aoe_disk.specs.declared.loss.Loss.{Loss}
use Rattle.aoe_keep.specs.Keep.{HasMounted}
use Rattle.aoe_target.specs.Mounted.{Mounted}
use Rattle.aoe_history.specs.declared.entry.Entry.{Entry}
use Rattle.aoe_history.specs.declared.entry.Entry.TheVariants.{Crashed}

-- a disk that lost its power, opened again: as many sectors, none of them loose, and nothing armed
pub record Loses (how : Loss) (old new : Memory) : Type 0 where
  pub image : IsLeft how old.bytes old.settled old.loose new.bytes
  pub allowed : CanLeave (contents_of old) new.bytes
  pub rest : new ≡ record (fresh new.bytes) { faults = old.faults; calls = old.calls }
  pub sectors : length new.loose ≡ length old.loose

-- a store with a cache loses what it holds back. Each sector that a crash can't change is on its disk
pub record LosesCache (how : Loss) (old new : Cache Memory) : Type 0 where
  pub disk : Loses how old.disk new.disk
  pub held : new.held ≡ []
  pub room : new.room ≡ old.room
  pub kept : KeepsSettled (seen_contents old.held (contents_of old.disk)) (contents_of old.disk)

abbrev pub LosesStore : Loss → AnyStore Memory → AnyStore Memory → Type 0
LosesStore how (Direct old) (Direct new) = Loses how old new
LosesStore how (Direct old) (Cached new) = ⊥
LosesStore how (Cached old) (Direct new) = ⊥
LosesStore how (Cached old) (Cached new) = LosesCache how old new

-- a target that lost its power and was mounted again
pub record Restarts (how : Loss) (old new : Mounted (AnyStore Memory) Memory) : Type 0 where
  pub station : new.station ≡ old.station
  pub store : LosesStore how old.store new.store
  pub disk : Memory
  pub keep : Loses how old.keep.disk disk
  pub mounted : HasMounted (state_of disk) (state_of new.keep.disk) new.keep.lists

-- and each of a shelf
pub record RestartEach (how : Loss) (old new : List (Mounted (AnyStore Memory) Memory)) : Type 0 where
  pub count : length new ≡ length old
  pub each : (i : ℕ) (a b : Mounted (AnyStore Memory) Memory) → slice_get old i ≡ Some a → slice_get new i ≡ Some b → Restarts how a b

-- what a history has of it, in the order of the targets
abbrev pub with_crashes : Loss → List (Mounted (AnyStore Memory) Memory) → List Entry → List Entry
with_crashes how [] h = h
with_crashes how (t ∷ targets) h = with_crashes how targets (Crashed t.station.id t.keep.lists how ∷ h)
