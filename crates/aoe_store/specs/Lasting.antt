-- A store whose writes last: a write that was done is on the medium when the call returns.
use Rattle.std.specs.Prelude.{◌≡◌, ◌⊎◌, ◌≤◌, ◌<◌, ◌+◌, ◌*◌, ◌/◌, ℕ, Bool, true, false, None, List, [], ◌∷◌, length, Result, Ok, Err, is_err}
use Rattle.std.specs.Option.{option_map}
use Rattle.aoe_base.specs.declared.failure.Failed.{Failed}
use Rattle.aoe_disk.specs.State.{Contents, DiskState, Schedule, BothTell, Write, is_loose, with_piece}
use Rattle.aoe_disk.specs.Calls.{IsRun, Logs, SyncsTo}
use Rattle.aoe_disk.specs.Sectors.{Touches}
use Rattle.aoe_store.specs.Store.{StoresTo}

-- a crash changes none of these n sectors
abbrev pub AreFirm : ℕ → ℕ → Contents → Type 0
AreFirm at n c = (s : ℕ) → at ≤ s → s < at + n → is_loose c.loose s ≡ false

-- neither tells the bytes of the last sync: the store syncs where it isn't asked to
pub record IsUntold (old new : Contents) : Type 0 where
  pub before : old.settled ≡ None
  pub after : new.settled ≡ None

-- an Ok write: the piece stands in its sectors, none of which a crash changes
pub record PutsToLast (at : ℕ) (piece : List ℕ) (old new : Contents) : Type 0 where
  pub bytes : new.bytes ≡ with_piece old.bytes (512 * at) piece
  pub touches : Touches at (length piece / 512) old new
  pub firm : AreFirm at (length piece / 512) new
  pub untold : IsUntold old new

-- a failed write of n bytes: its sectors have any bytes, and each of them may be loose
pub record MayLose (at n : ℕ) (old new : Contents) : Type 0 where
  pub touches : Touches at (n / 512) old new
  pub untold : IsUntold old new

abbrev pub Lasts : {T E : Type 0} → ℕ → List ℕ → Result T E → Contents → Contents → Type 0
Lasts at piece (Ok _) old new = PutsToLast at piece old new
Lasts at piece (Err _) old new = MayLose at (length piece) old new

-- a write of a piece to such a store
pub record LastsTo {T E : Type 0} (at : ℕ) (piece : List ℕ) (result : Result T E) (old new : DiskState) : Type 0 where
  pub call : IsRun 1 (is_err result) old new
  pub contents : BothTell (Lasts at piece result) old.contents new.contents
  pub log : Logs (Write at piece ∷ []) old new

-- a write of a piece, to a store whose writes last or to one whose writes needn't
abbrev pub StoresAs : {T E : Type 0} → Bool → ℕ → List ℕ → Result T E → DiskState → DiskState → Type 0
StoresAs true at piece result old new = LastsTo at piece result old new
StoresAs false at piece result old new = StoresTo at piece result old new

-- what is told of a store under one that makes more calls of it than are asked for: its bytes and its marks, but not which call is the
-- next to fail, nor the calls, nor the bytes of the last sync
abbrev pub outline_contents : Contents → Contents
outline_contents c = record { bytes = c.bytes; loose = c.loose; settled = None }

abbrev pub outline_schedule : Schedule → Schedule
outline_schedule s = record { armed = s.armed; out = s.out; due = None }

abbrev pub outline : DiskState → DiskState
outline d = record {
  sectors = d.sectors;
  faults = d.faults;
  contents = option_map outline_contents d.contents;
  schedule = option_map outline_schedule d.schedule;
  log = None;
}

-- the store under it was written to, and then synced, with this result
pub record SyncsBehind (lasts : Bool) (at : ℕ) (piece : List ℕ) (result : Result (Unit {0}) Failed) (old new : DiskState) : Type 0 where
  pub between : DiskState
  pub writes : (let done : Result (Unit {0}) Failed = Ok tt in StoresAs lasts at piece done old between)
  pub syncs : SyncsTo result between new

-- a write of a piece, which failed at the write, or went on to the sync and has its result
abbrev pub WritesAndSyncs : Bool → ℕ → List ℕ → Result (Unit {0}) Failed → DiskState → DiskState → Type 0
WritesAndSyncs lasts at piece result old new =
    ((is_err result ≡ true) × StoresAs lasts at piece result old new) ⊎ SyncsBehind lasts at piece result old new
