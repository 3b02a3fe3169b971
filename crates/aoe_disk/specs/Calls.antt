-- What device calls do: reads, writes and syncs.
use Rattle.std.specs.Prelude.{◌≡◌, ◌+◌, ◌-◌, ◌*◌, ◌/◌, ◌≤◌, ◌<◌, ℕ, Bool, true, false, Option, None, Some, IfSome, IsSome, is_some, is_none, unwrap_or, List, [], ◌∷◌, ◌++◌, length, take, drop, replicate, Result, Ok, Err, OnOk, is_err, if◌then◌else◌}
use Rattle.std.specs.Bool.{OnTrue}
use Rattle.std.specs.Option.{option_map}
use Rattle.aoe_base.specs.Faults.{Rose}
use Rattle.aoe_disk.specs.State.{Contents, Schedule, DiskState, DeviceCall, IsDisk, BothTell, with_piece, with_marks, spoiled_sector, is_loose}
use Rattle.aoe_disk.specs.State.{Read, Write, Sync}

-- n bytes from sector at on are whole sectors of the disk, one at least
pub record IsRange (at n sectors : ℕ) : Type 0 where
  pub some : 0 < n
  pub whole : 512 * (n / 512) ≡ n
  pub within : at + n / 512 ≤ sectors

-- the call that was due was none of m calls, and is so much nearer; or it was one of them, which failed,
-- and after it the next call is due while a stop is armed, and else none
abbrev pub MovesDueCall : ℕ → Bool → Bool → ℕ → Option ℕ → Type 0
MovesDueCall m false is_stop due new = (m < due) × (new ≡ Some (due - m))
MovesDueCall m true is_stop due new = (due ≤ m) × (new ≡ (if is_stop then Some 1 else None))

-- how m calls move the failure that is due; none fails where none is due
abbrev pub MovesDue : ℕ → Bool → Bool → Option ℕ → Option ℕ → Type 0
MovesDue m failed is_stop None new = (failed ≡ false) × (new ≡ None)
MovesDue m failed is_stop (Some due) new = MovesDueCall m failed is_stop due new

-- how m calls, in which the count of faults went from before to after, move the schedule
pub record MovesOn (m : ℕ) (failed : Bool) (before after : ℕ) (old new : Schedule) : Type 0 where
  pub kind : is_some new.armed ≡ is_some old.armed
  pub fewer : IsSome old.armed → after + unwrap_or new.armed 0 ≤ before + unwrap_or old.armed 0
  pub stop : old.armed ≡ None → before < after → new.out ≡ true
  pub out_by_fault : old.out ≡ false → new.out ≡ true → Rose before after
  pub out_by_failure : IsSome old.due → old.out ≡ false → new.out ≡ true → failed ≡ true
  pub stays_out : old.out ≡ true → new.out ≡ true
  pub due : BothTell (MovesDue m failed (is_none old.armed)) old.due new.due

-- m device calls, none of which failed; or m at most, of which one or more failed
pub record IsRun (m : ℕ) (failed : Bool) (old new : DiskState) : Type 0 where
  pub before : IsDisk old
  pub after : IsDisk new
  pub sectors : new.sectors ≡ old.sectors
  pub tells : is_some new.contents ≡ is_some old.contents
  pub later : old.faults ≤ new.faults
  pub cause : OnTrue failed (Rose old.faults new.faults)
  pub schedule : BothTell (MovesOn m failed old.faults new.faults) old.schedule new.schedule

-- a disk that tells its calls was called so, whether or not the last of them failed; one that doesn't goes on telling none
abbrev pub Logs : List DeviceCall → DiskState → DiskState → Type 0
Logs calls old new = new.log ≡ option_map (λ made. made ++ calls) old.log

-- these calls in their order, or those up to one that failed
pub record Makes (calls : List DeviceCall) (failed : Bool) (old new : DiskState) : Type 0 where
  pub made : ℕ
  pub within : made ≤ length calls
  pub some : failed ≡ true → 0 < made
  pub all : failed ≡ false → made ≡ length calls
  pub log : Logs (take made calls) old new

-- a read of n bytes
pub record Reads {T E : Type 0} (at n : ℕ) (result : Result T E) (out : List ℕ) (old new : DiskState) : Type 0 where
  pub call : IsRun 1 (is_err result) old new
  pub same : new.contents ≡ old.contents
  pub given : OnOk result (IfSome old.contents (λ c. out ≡ take n (drop (512 * at) c.bytes)))
  pub log : Logs (Read at n ∷ []) old new

-- an Ok write: the piece stands in its sectors, which are loose
pub record Puts (at : ℕ) (piece : List ℕ) (old new : Contents) : Type 0 where
  pub bytes : new.bytes ≡ with_piece old.bytes (512 * at) piece
  pub loose : new.loose ≡ with_marks old.loose at (length piece / 512)
  pub settled : new.settled ≡ old.settled

-- two lists agree but for n places from start on
pub record SameOutside {A : Type 0} (start n : ℕ) (old new : List A) : Type 0 where
  pub size : length new ≡ length old
  pub before : take start new ≡ take start old
  pub after : drop (start + n) new ≡ drop (start + n) old

-- a failed write of n bytes: any bytes in its sectors, which are loose. A disk that tells its settled bytes
-- spoils the first of them and leaves the rest as they were
pub record Spoils (at n : ℕ) (old new : Contents) : Type 0 where
  pub bytes : SameOutside (512 * at) n old.bytes new.bytes
  pub loose : new.loose ≡ with_marks old.loose at (n / 512)
  pub settled : new.settled ≡ old.settled
  pub exact : IsSome old.settled → new.bytes ≡ with_piece old.bytes (512 * at) spoiled_sector

abbrev pub Writes : {T E : Type 0} → ℕ → List ℕ → Result T E → Contents → Contents → Type 0
Writes at piece (Ok _) old new = Puts at piece old new
Writes at piece (Err _) old new = Spoils at (length piece) old new

-- a write of a piece
pub record WritesTo {T E : Type 0} (at : ℕ) (piece : List ℕ) (result : Result T E) (old new : DiskState) : Type 0 where
  pub call : IsRun 1 (is_err result) old new
  pub contents : BothTell (Writes at piece result) old.contents new.contents
  pub log : Logs (Write at piece ∷ []) old new

-- an Ok sync: nothing is loose, and the bytes are settled
pub record Settles (old new : Contents) : Type 0 where
  pub bytes : new.bytes ≡ old.bytes
  pub loose : new.loose ≡ replicate (length old.loose) false
  pub settled : BothTell (λ _ settled. settled ≡ old.bytes) old.settled new.settled

-- a failed sync: some sectors may be loose no more, and none on a disk that tells its settled bytes
pub record MaySettle (old new : Contents) : Type 0 where
  pub bytes : new.bytes ≡ old.bytes
  pub marks : length new.loose ≡ length old.loose
  pub fewer : (s : ℕ) → is_loose old.loose s ≡ false → is_loose new.loose s ≡ false
  pub settled : new.settled ≡ old.settled
  pub exact : IsSome old.settled → new.loose ≡ old.loose

abbrev pub Syncs : {T E : Type 0} → Result T E → Contents → Contents → Type 0
Syncs (Ok _) old new = Settles old new
Syncs (Err _) old new = MaySettle old new

-- a sync
pub record SyncsTo {T E : Type 0} (result : Result T E) (old new : DiskState) : Type 0 where
  pub call : IsRun 1 (is_err result) old new
  pub contents : BothTell (Syncs result) old.contents new.contents
  pub log : Logs (Sync ∷ []) old new
