-- What a loss of power leaves of a cached store: the disk without the buffer, as long as nothing was written to it.
use Rattle.std.specs.Prelude.{◌≡◌, ◌≤◌, ◌+◌, ◌-◌, ℕ, Bool, false, not, Option, Some, None, IfSome, Result, OnOk, List, length, if◌then◌else◌, option_map}
use Rattle.std.specs.List.{list_all}
use Rattle.aoe_disk.specs.State.{Contents, DiskState, is_loose, sector}
use Rattle.aoe_store.specs.Under.{Under}
use Rattle.aoe_cache.specs.Cache.{Cache, state_of}

-- no sector is loose
abbrev pub is_settled : Contents → Bool
is_settled c = list_all not c.loose

abbrev pub free_of : ℕ → Option Contents → Option ℕ
free_of places None = None
free_of places (Some c) = if is_settled c then Some places else None

-- the sectors of the disk without the buffer
abbrev pub base : {D : Type 0} → (D → DiskState) → Cache D → Option (List ℕ)
base state c = option_map (λ (d : Contents). d.bytes) (state c.disk).contents

-- how many more sectors can be written before the disk is: a number as long as no sector of the disk is loose
abbrev pub free : {D : Type 0} → (D → DiskState) → Cache D → Option ℕ
free state c = free_of (c.room - length c.held) (state c.disk).contents

-- what a cached store tells of its disk
abbrev pub under_of : {D : Type 0} → (D → DiskState) → Cache D → Under
under_of state c = record { disk = state c.disk; free = free state c; room = c.room }

-- a write of n sectors, of which k could be written: the disk's stay, and at most n fewer can be written
pub record Spends {D : Type 0} (state : D → DiskState) (n k : ℕ) (old new : Cache D) : Type 0 where
  pub disk : base state new ≡ base state old
  pub left : ℕ
  pub free : free state new ≡ Some left
  pub fewer : k ≤ left + n

-- after an Ok sync the disk has what the store showed, and all the room is free
pub record Frees {D : Type 0} (state : D → DiskState) (shown : Contents) (new : Cache D) : Type 0 where
  pub disk : base state new ≡ Some shown.bytes
  pub free : free state new ≡ Some new.room

-- what the calls of a cached store do to these
abbrev pub KeepsFree : {D : Type 0} → (D → DiskState) → Cache D → Cache D → Type 0
KeepsFree state old new = (base state new ≡ base state old) × (free state new ≡ free state old)

abbrev pub SpendsFree : {D : Type 0} → (D → DiskState) → ℕ → Cache D → Cache D → Type 0
SpendsFree state n old new = (k : ℕ) → free state old ≡ Some k → n ≤ k → Spends state n k old new

abbrev pub FreesAll : {D T E : Type 0} → (D → DiskState) → Result T E → Cache D → Cache D → Type 0
FreesAll state result old new = OnOk result (IfSome (state_of state old).contents (λ shown. Frees state shown new))

-- what the disk has without the buffer: each sector that isn't loose in the store isn't loose there, and is as the store shows it
pub record KeepsSettled (shown disk : Contents) : Type 0 where
  pub kept : (s : ℕ) → is_loose shown.loose s ≡ false → (is_loose disk.loose s ≡ false) × (sector disk.bytes s ≡ sector shown.bytes s)
