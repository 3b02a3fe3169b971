-- Either of two stores over one kind of disk.
use Rattle.std.specs.Prelude.{ℕ, Option, None, Some, []}
use Rattle.aoe_disk.specs.State.{DiskState}
use Rattle.aoe_store.specs.Under.{Under}
use Rattle.aoe_cache.specs.Cache.{Cache, state_of}
use Rattle.aoe_cache.specs.Free.{under_of}
use Rattle.aoe_cache.specs.declared.any.AnyStore.{AnyStore}
use Rattle.aoe_cache.specs.declared.any.AnyStore.TheVariants.{Direct, Cached}

-- a store over a disk, which holds back up to so many sectors where there is a number, and none yet
abbrev pub over : {D : Type 0} → Option ℕ → D → AnyStore D
over None disk = Direct disk
over (Some room) disk = Cached (record { disk = disk; held = []; room = room })

-- what a store shows of its disk
abbrev pub any_state : {D : Type 0} → (D → DiskState) → AnyStore D → DiskState
any_state state (Direct d) = state d
any_state state (Cached c) = state_of state c

-- what is told of the disk under a cached store
abbrev pub any_under : {D : Type 0} → (D → DiskState) → AnyStore D → Option Under
any_under state (Direct d) = None
any_under state (Cached c) = Some (under_of state c)

abbrev pub any_disk : {D : Type 0} → AnyStore D → D
any_disk (Direct d) = d
any_disk (Cached c) = c.disk

-- a direct store stays one, and a cached store stays one and changes so
abbrev pub StaysWith : {D : Type 0} → (Cache D → Cache D → Type 0) → AnyStore D → AnyStore D → Type 0
StaysWith R (Direct a) (Direct b) = Unit {0}
StaysWith R (Direct a) (Cached b) = ⊥
StaysWith R (Cached a) (Direct b) = ⊥
StaysWith R (Cached a) (Cached b) = R a b
