-- The store of a slot, over its file.
use Rattle.std.specs.Prelude.{ℕ, zero, suc, Bool, true, false, Option, None, Some, [], ◌≡◌, ◌≤◌, length, if◌then◌else◌}
use Rattle.aoe_cache.specs.Any.{over}
use Rattle.aoe_cache.specs.declared.any.AnyStore.{AnyStore}
use Rattle.aoe_cache.specs.declared.any.AnyStore.TheVariants.{Direct, Cached}
use Rattle.aoe_serve.specs.declared.backing.FileStore.{FileStore}
use Rattle.aoe_serve.specs.declared.backing.FileStore.TheVariants.{Any, Durable}

-- where no sector is to be held back, a store writes through
abbrev pub room_of : ℕ → Option ℕ
room_of zero = None
room_of (suc most) = Some (suc most)

-- how many sectors the stores of slots hold back at most: none, behind each write of which comes a sync, where writes are to last; or
-- no number, where they write through
abbrev pub held_back : Bool → ℕ → Option ℕ
held_back durable cache = if durable then Some 0 else room_of cache

-- whether the writes of such a store last
abbrev pub lasts_of : Option ℕ → Bool
lasts_of None = false
lasts_of (Some zero) = true
lasts_of (Some (suc most)) = false

-- a store over a file that holds back up to so many sectors, and none yet
abbrev pub over_file : {D : Type 0} → Option ℕ → D → AnyStore D
over_file most file = over most file

-- a store holds back up to so many sectors
abbrev pub HoldsBack : {D : Type 0} → Option ℕ → AnyStore D → Type 0
HoldsBack None (Direct disk) = Unit {0}
HoldsBack None (Cached cache) = ⊥
HoldsBack (Some most) (Direct disk) = ⊥
HoldsBack (Some most) (Cached cache) = (cache.room ≡ most) × (length cache.held ≤ most)

-- a store whose writes last shows what one does that holds back none
abbrev pub seen_as : {D : Type 0} → FileStore D → AnyStore D
seen_as (Any store) = store
seen_as (Durable disk) = Cached (record { disk = disk; held = []; room = 0 })

-- the store is of the kind that is asked for
abbrev pub IsBacking : {D : Type 0} → Option ℕ → FileStore D → Type 0
IsBacking most (Any store) = (lasts_of most ≡ false) × HoldsBack most store
IsBacking most (Durable disk) = most ≡ Some 0
