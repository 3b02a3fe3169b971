-- What a write to a store does. Reads, syncs and arming are those of a disk.
use Rattle.std.specs.Prelude.{◌≡◌, ◌*◌, ◌/◌, ℕ, false, IsSome, List, [], ◌∷◌, length, Result, Ok, Err, is_err}
use Rattle.aoe_disk.specs.State.{Contents, DiskState, BothTell, is_loose, sector}
use Rattle.aoe_disk.specs.State.{Write}
use Rattle.aoe_disk.specs.Calls.{IsRun, Logs, Puts, Spoils, SameOutside}

-- a failed write of n bytes: its sectors have any bytes, and each of them may be loose. One that isn't loose then is as it was:
-- a crash leaves it so. A store that tells its settled bytes is exact, as a disk is
pub record MaySpoil (at n : ℕ) (old new : Contents) : Type 0 where
  pub bytes : SameOutside (512 * at) n old.bytes new.bytes
  pub loose : SameOutside at (n / 512) old.loose new.loose
  pub kept : (s : ℕ) → is_loose new.loose s ≡ false → (is_loose old.loose s ≡ false) × (sector new.bytes s ≡ sector old.bytes s)
  pub settled : new.settled ≡ old.settled
  pub exact : IsSome old.settled → Spoils at n old new

abbrev pub Stores : {T E : Type 0} → ℕ → List ℕ → Result T E → Contents → Contents → Type 0
Stores at piece (Ok _) old new = Puts at piece old new
Stores at piece (Err _) old new = MaySpoil at (length piece) old new

-- a write of a piece
pub record StoresTo {T E : Type 0} (at : ℕ) (piece : List ℕ) (result : Result T E) (old new : DiskState) : Type 0 where
  pub call : IsRun 1 (is_err result) old new
  pub contents : BothTell (Stores at piece result) old.contents new.contents
  pub log : Logs (Write at piece ∷ []) old new
