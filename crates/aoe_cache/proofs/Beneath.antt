-- What calls of a cached store do to its disk.
use Rattle.std.proofs.Common.{◌+◌, ◌/◌, ℕ, true, false, List, Result, is_err, length, refl, inl, inr}
use Rattle.std.proofs.lemmas.Bool.{cases_lt}
use Rattle.aoe_disk.specs.State.{DiskState, IsDisk}
use Rattle.aoe_disk.specs.Calls.{IsRange, IsRun}
use Rattle.aoe_disk.proofs.Runs.{run_none, run_then}
use Rattle.aoe_store.specs.Under.{FreesUnder, ReadsUnder, SpendsUnder}
use Rattle.aoe_cache.specs.Held.{with_written}
use Rattle.aoe_cache.specs.Down.{Empties, WritesPart}
use Rattle.aoe_cache.specs.Cache.{Cache, CacheReads, CacheSyncs, CacheWrites, state_of}
use Rattle.aoe_cache.specs.Free.{under_of}
use Rattle.aoe_cache.specs.declared.place.HeldSector.{HeldSector}
use Rattle.aoe_cache.proofs.Ascending.{AreHeld}
use Rattle.aoe_cache.proofs.Down.{AsSeen, down_seen}
use Rattle.aoe_cache.proofs.Freeing.{frees_all, spends_free}

-- THE DEVICE CALLS

module _ {D T E : Type 0} (state : D → DiskState) (result : Result T E) (old new : Cache D) (disk : IsDisk (state old.disk))
    (held : AreHeld (state old.disk).sectors old.held) where
  abbrev Made : Type 0
  Made = (m : ℕ) × IsRun m (is_err result) (state old.disk) (state new.disk)

  part_made : WritesPart result old.held new.held (state old.disk) (state new.disk) → Made
  part_made part = let stays = down_seen true old.held new.held (state old.disk) (state new.disk) disk held part.down in (stays.calls, rw part.failed stays.run)

  module _ (rest : List HeldSector) (between : DiskState) (down : Empties old.held rest (state old.disk) between) where
    emptied : AsSeen false old.held rest (state old.disk) between
    emptied = down_seen false old.held rest (state old.disk) between disk held down.down

    then_one : IsRun 1 (is_err result) between (state new.disk) → Made
    then_one call = (emptied.calls + 1, run_then emptied.calls 1 (is_err result) (state old.disk) between (state new.disk) emptied.run call)

  writes_made : (at : ℕ) (piece : List ℕ) → CacheWrites state at piece result old new → Made
  writes_made at piece writes = elim (cases_lt old.room (length (with_written at (length piece / 512) piece old.held))) [
    | inl over ↦ elim (writes.beyond over) [
      | inl part ↦ part_made part
      | inr after ↦ elim (cases_lt old.room (length piece / 512)) [
        | inl long ↦ then_one _ after.between after.down (after.puts.disk long).1.call
        | inr short ↦ let puts = after.puts.buffer short in let e = emptied _ after.between after.down in (e.calls, rw (puts.1, puts.0) e.run)
      ]
    ]
    | inr fits ↦ let puts = writes.within fits in (0, rw (puts.disk, puts.done) (run_none (state old.disk) disk))
  ]

  syncs_made : CacheSyncs state result old new → Made
  syncs_made syncs = elim syncs.down [
    | inl part ↦ part_made part
    | inr after ↦ then_one _ after.between after.down after.sync.call
  ]

  -- WHAT IS TOLD OF IT

  pub spends_under : (at : ℕ) (piece : List ℕ) → IsRange at (length piece) (state old.disk).sectors → CacheWrites state at piece result old new
      → SpendsUnder (length piece / 512) (is_err result) (under_of state old) (under_of state new)
  spends_under at piece range writes =
      let m = writes_made at piece writes in
      record {
        calls = record { room = writes.room; made = m.0; run = m.1 };
        within = λ k is le.
            let s = spends_free state at piece result old new range writes k is le in
            record { bytes = s.disk; left = s.left; free = s.free; fewer = s.fewer };
      }

  pub frees_under : CacheSyncs state result old new → FreesUnder (is_err result) (state_of state old).contents (under_of state old) (under_of state new)
  frees_under syncs =
      let m = syncs_made syncs in
      record {
        calls = record { room = syncs.room; made = m.0; run = m.1 };
        done = frees_all state old new disk held result syncs;
      }

pub reads_under : {D T E : Type 0} (state : D → DiskState) (at n : ℕ) (result : Result T E) (old new : Cache D) → CacheReads state at n result old new
    → ReadsUnder (is_err result) (under_of state old) (under_of state new)
reads_under state at n result old new reads = record {
  calls = record { room = reads.room; made = 1; run = reads.device.call };
  same = reads.device.same;
  free = rw (reads.held, reads.room, reads.device.same) refl;
}
