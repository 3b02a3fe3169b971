-- A cached store, and what its calls do to its disk.
use Rattle.std.specs.Prelude.{◌≡◌, ◌≤◌, ◌<◌, ◌+◌, ◌⊎◌, ◌/◌, ℕ, nat_eq, min, false, None, List, [], length, drop, Result, is_err, option_map}
use Rattle.std.specs.List.{All}
use Rattle.indexmap.specs.IndexSet.{IsUnique, spare}
use Rattle.aoe_base.specs.Sizes.{scratch_bytes}
use Rattle.aoe_disk.specs.State.{Contents, Schedule, DiskState, IsDisk}
use Rattle.aoe_disk.specs.Calls.{Reads, WritesTo, SyncsTo}
use Rattle.aoe_disk.specs.Arming.{ArmsTo}
use Rattle.aoe_disk.specs.declared.armed.Arm.{Arm}
use Rattle.aoe_cache.specs.declared.place.HeldSector.{HeldSector}
use Rattle.aoe_cache.specs.declared.buffer.Buffer.{Buffer}
use Rattle.aoe_cache.specs.declared.write_behind.WriteBehind.{WriteBehind}
use Rattle.aoe_cache.specs.Held.{IsAscending, AreBelow, held_of, laid_over, marked, numbers_of, placed, with_written}
use Rattle.aoe_cache.specs.Down.{Empties, WritesPart}

-- its disk, the sectors that were written and aren't there yet, and how many of them it holds at most
pub record Cache (D : Type 0) : Type 0 where
  pub disk : D
  pub held : List HeldSector
  pub room : ℕ

-- what a store shows of its disk's contents: the buffered sectors are laid over them, and are loose
abbrev pub seen_contents : List HeldSector → Contents → Contents
seen_contents held c = record { bytes = laid_over c.bytes held; loose = marked c.loose held; settled = None }

-- a store that makes many device calls, or none, can't tell which call is the next to fail, nor the calls as its own
abbrev pub seen_schedule : Schedule → Schedule
seen_schedule s = record { armed = s.armed; out = s.out; due = None }

abbrev pub seen : List HeldSector → DiskState → DiskState
seen held d = record {
  sectors = d.sectors;
  faults = d.faults;
  contents = option_map (seen_contents held) d.contents;
  schedule = option_map seen_schedule d.schedule;
  log = None;
}

-- what a cached store shows, where the function says it of its disk
abbrev pub state_of : {D : Type 0} → (D → DiskState) → Cache D → DiskState
state_of state c = seen c.held (state c.disk)

-- a read: one device read, and the buffer stays
pub record CacheReads {D T E : Type 0} (state : D → DiskState) (at n : ℕ) (result : Result T E) (old new : Cache D) : Type 0 where
  pub held : new.held ≡ old.held
  pub room : new.room ≡ old.room
  pub given : List ℕ
  pub device : Reads at n result given (state old.disk) (state new.disk)

-- a write that the buffer has room for: no device call
pub record PutsHeld {D T E : Type 0} (at n : ℕ) (piece : List ℕ) (result : Result T E) (old new : Cache D) : Type 0 where
  pub done : is_err result ≡ false
  pub disk : new.disk ≡ old.disk
  pub held : new.held ≡ with_written at n piece old.held

-- any other write of n sectors, once the buffer was written down: to the buffer where it has room for so many, and
-- else to the disk by one device write
pub record PutsAfter {T E : Type 0} (at n : ℕ) (piece : List ℕ) (result : Result T E) (most : ℕ) (held : List HeldSector) (between new : DiskState) : Type 0 where
  pub buffer : n ≤ most → (is_err result ≡ false) × (new ≡ between) × (held ≡ with_written at n piece [])
  pub disk : most < n → (held ≡ []) × WritesTo at piece result between new

pub record WritesAfter {D T E : Type 0} (state : D → DiskState) (at n : ℕ) (piece : List ℕ) (result : Result T E) (old new : Cache D) : Type 0 where
  pub between : DiskState
  pub down : Empties old.held [] (state old.disk) between
  pub puts : PutsAfter at n piece result old.room new.held between (state new.disk)

-- a write of a piece: where the buffer has no room for it and couldn't be written down whole, nothing of the piece is stored
pub record CacheWrites {D T E : Type 0} (state : D → DiskState) (at : ℕ) (piece : List ℕ) (result : Result T E) (old new : Cache D) : Type 0 where
  pub room : new.room ≡ old.room
  pub within : length (with_written at (length piece / 512) piece old.held) ≤ old.room → PutsHeld at (length piece / 512) piece result old new
  pub beyond : old.room < length (with_written at (length piece / 512) piece old.held)
      → WritesPart result old.held new.held (state old.disk) (state new.disk) ⊎ WritesAfter state at (length piece / 512) piece result old new

-- a sync: the buffer is written down, and then the disk is synced, where all of it was written
pub record SyncsAfter {T E : Type 0} (result : Result T E) (held rest : List HeldSector) (old new : DiskState) : Type 0 where
  pub between : DiskState
  pub down : Empties held rest old between
  pub sync : SyncsTo result between new

pub record CacheSyncs {D T E : Type 0} (state : D → DiskState) (result : Result T E) (old new : Cache D) : Type 0 where
  pub room : new.room ≡ old.room
  pub down : WritesPart result old.held new.held (state old.disk) (state new.disk) ⊎ SyncsAfter result old.held new.held (state old.disk) (state new.disk)

-- arming reaches the disk alone
pub record CacheArms {D : Type 0} (state : D → DiskState) (arm : Arm) (old new : Cache D) : Type 0 where
  pub held : new.held ≡ old.held
  pub room : new.room ≡ old.room
  pub device : ArmsTo arm (state old.disk) (state new.disk)

-- whole sectors
abbrev pub AreWhole : List HeldSector → Type 0
AreWhole hs = All (λ (h : HeldSector). length h.bytes ≡ 512) hs

-- a buffer has a place for each of its sectors, and its table room for as many as it has places
pub record HasRoom (b : Buffer) : Type 0 where
  pub used : length b.numbers.keys ≤ length b.places.items
  pub room : length b.places.items ≤ length b.numbers.keys + spare b.numbers

-- its table has the numbers of its sectors, each once, as their places come
pub record IsIndexed (b : Buffer) : Type 0 where
  pub has : HasRoom b
  pub numbers : b.numbers.keys ≡ numbers_of (placed b)
  pub once : IsUnique nat_eq b.numbers
  pub whole : AreWhole (placed b)

-- what the buffer keeps for a disk of so many sectors
pub record IsBuffer (sectors : ℕ) (b : Buffer) : Type 0 where
  pub indexed : IsIndexed b
  pub order : IsAscending 0 (held_of b)
  pub below : AreBelow sectors (held_of b)

-- the same while it is written down: its places from one on are in order, whatever its table says
pub record IsInOrder (sectors from : ℕ) (b : Buffer) : Type 0 where
  pub has : HasRoom b
  pub order : IsAscending 0 (drop from (placed b))
  pub below : AreBelow sectors (drop from (placed b))

-- what a cached store keeps
pub record IsWriteBehind {D : Type 0} (state : D → DiskState) (b : WriteBehind D) : Type 0 where
  pub disk : IsDisk (state b.disk)
  pub buffer : IsBuffer (state b.disk).sectors b.buffer
  pub places : length b.buffer.places.items ≡ min b.room (state b.disk).sectors
  pub scratch : length b.scratch.items ≡ scratch_bytes

abbrev pub cache_of : {D : Type 0} → WriteBehind D → Cache D
cache_of b = record { disk = b.disk; held = held_of b.buffer; room = b.room }
