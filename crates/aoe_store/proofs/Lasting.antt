-- Writes with a sync behind them.
use Rattle.std.proofs.Common.{◌≡◌, ◌*◌, ◌/◌, ℕ, Bool, true, false, Option, Some, None, IfSome, IsSome, Result, Ok, Err, List, length, refl, ap, ◌∙◌, is_some}
use Rattle.std.specs.Prelude.{is_err}
use Rattle.std.specs.Option.{option_map}
use Rattle.aoe_disk.specs.State.{Contents, Schedule, DiskState, IsDisk, IsSchedule, HasShape, BothTell, sector, with_piece}
use Rattle.aoe_disk.specs.Calls.{IsRange, IsRun, MovesOn, Puts, Syncs, SyncsTo}
use Rattle.aoe_disk.specs.Sectors.{Calms, Touches}
use Rattle.aoe_disk.proofs.Runs.{run_then}
use Rattle.aoe_disk.proofs.Touching.{calm_refl, may_settle_calm, puts_touch, settles_calm, settles_kept}
use Rattle.aoe_store.specs.Store.{MaySpoil}
use Rattle.aoe_store.specs.Lasting.{Lasts, LastsTo, MayLose, PutsToLast, StoresAs, outline, outline_contents, outline_schedule}
use Rattle.aoe_store.proofs.Spoiling.{may_spoil_touch}

-- The calls.

outlined_shape : (sectors : ℕ) (c : Option Contents) → IfSome c (HasShape sectors) → IfSome (option_map outline_contents c) (HasShape sectors)
outlined_shape sectors None shape = tt
outlined_shape sectors (Some c) shape = record { bytes = shape.bytes; marks = shape.marks; settled = tt }

outlined_schedule : (s : Option Schedule) → IfSome s IsSchedule → IfSome (option_map outline_schedule s) IsSchedule
outlined_schedule None is = tt
outlined_schedule (Some s) is = record { number_in = is.number_in; from_one = tt }

outlined_disk : (d : DiskState) → IsDisk d → IsDisk (outline d)
outlined_disk d is = record {
  bound = is.bound;
  shape = outlined_shape d.sectors d.contents is.shape;
  schedule = outlined_schedule d.schedule is.schedule;
}

none_due : (x : Option (Option ℕ)) → x ≡ None → IsSome x → ⊥
none_due None e told = cc
none_due (Some x) e told = cc

outlined_moves : (m before after : ℕ) (failed : Bool) (x y : Option Schedule) → BothTell (MovesOn m failed before after) x y
    → BothTell (MovesOn 1 failed before after) (option_map outline_schedule x) (option_map outline_schedule y)
outlined_moves m before after failed None None moves = tt
outlined_moves m before after failed None (Some y) moves = absurd moves
outlined_moves m before after failed (Some x) None moves = absurd moves
outlined_moves m before after failed (Some x) (Some y) moves = record {
  kind = moves.kind;
  fewer = moves.fewer;
  stop = moves.stop;
  out_by_fault = moves.out_by_fault;
  out_by_failure = λ told was is. absurd (none_due None refl told);
  stays_out = moves.stays_out;
  due = tt;
}

outlined_tells : (x y : Option Contents) → is_some y ≡ is_some x → is_some (option_map outline_contents y) ≡ is_some (option_map outline_contents x)
outlined_tells None None tells = refl
outlined_tells None (Some y) tells = cc
outlined_tells (Some x) None tells = cc
outlined_tells (Some x) (Some y) tells = refl

outlined_run : (m : ℕ) (failed : Bool) (old new : DiskState) → IsRun m failed old new → IsRun 1 failed (outline old) (outline new)
outlined_run m failed old new run = record {
  before = outlined_disk old run.before;
  after = outlined_disk new run.after;
  sectors = run.sectors;
  tells = outlined_tells old.contents new.contents run.tells;
  later = run.later;
  cause = run.cause;
  schedule = outlined_moves m old.faults new.faults failed old.schedule new.schedule run.schedule;
}

pub stored_call : {T E : Type 0} (lasts : Bool) (at : ℕ) (piece : List ℕ) (result : Result T E) (old new : DiskState) → StoresAs lasts at piece result old new
    → IsRun 1 (is_err result) old new
stored_call true at piece result old new stores = stores.call
stored_call false at piece result old new stores = stores.call

-- What they leave.

-- a write was done: its bytes stand there, and other sectors are as they were
record PutsThere (at : ℕ) (piece : List ℕ) (old new : Contents) : Type 0 where
  bytes : new.bytes ≡ with_piece old.bytes (512 * at) piece
  touches : Touches at (length piece / 512) old new

told_puts : (T E : Type 0) (lasts : Bool) (at : ℕ) (piece : List ℕ) (done : T) (old new : DiskState) → IsRange at (length piece) old.sectors
    → (let result : Result T E = Ok done in StoresAs lasts at piece result old new) → BothTell (PutsThere at piece) old.contents new.contents
told_puts T E true at piece done old new range stores = told old.contents new.contents stores.contents
  where
    told : (x y : Option Contents) → BothTell (PutsToLast at piece) x y → BothTell (PutsThere at piece) x y
    told None None t = tt
    told None (Some y) t = absurd t
    told (Some x) None t = absurd t
    told (Some x) (Some y) t = record { bytes = t.bytes; touches = t.touches }
told_puts T E false at piece done old new range stores = told old.contents new.contents stores.call.before.shape stores.contents
  where
    told : (x y : Option Contents) → IfSome x (HasShape old.sectors) → BothTell (Puts at piece) x y → BothTell (PutsThere at piece) x y
    told None None shape t = tt
    told None (Some y) shape t = absurd t
    told (Some x) None shape t = absurd t
    told (Some x) (Some y) shape t = record { bytes = t.bytes; touches = puts_touch at piece x y old.sectors shape range t }

-- a write failed
pub told_touches : (T E : Type 0) (lasts : Bool) (at : ℕ) (piece : List ℕ) (failed : E) (old new : DiskState) → IsRange at (length piece) old.sectors
    → (let result : Result T E = Err failed in StoresAs lasts at piece result old new) → BothTell (Touches at (length piece / 512)) old.contents new.contents
told_touches T E true at piece failed old new range stores = told old.contents new.contents stores.contents
  where
    told : (x y : Option Contents) → BothTell (MayLose at (length piece)) x y → BothTell (Touches at (length piece / 512)) x y
    told None None t = tt
    told None (Some y) t = absurd t
    told (Some x) None t = absurd t
    told (Some x) (Some y) t = t.touches
told_touches T E false at piece failed old new range stores = told old.contents new.contents stores.contents
  where
    told : (x y : Option Contents) → BothTell (MaySpoil at (length piece)) x y → BothTell (Touches at (length piece / 512)) x y
    told None None t = tt
    told None (Some y) t = absurd t
    told (Some x) None t = absurd t
    told (Some x) (Some y) t = may_spoil_touch at (length piece) x y old.sectors range t

touches_then : (at n : ℕ) (a b c : Contents) → Touches at n a b → Calms b c → Touches at n (outline_contents a) (outline_contents c)
touches_then at n a b c t k = record {
  size = ap length k.bytes ∙ t.size;
  marks = k.marks ∙ t.marks;
  same = λ s out. ap (λ (l : List ℕ). sector l s) k.bytes ∙ t.same s out;
  kept = λ s out e. k.kept s (t.kept s out e);
}

module _ (at : ℕ) (piece : List ℕ) where
  synced : {T E : Type 0} (result : Result T E) (a b c : Contents) → PutsThere at piece a b → Syncs result b c
      → Lasts at piece result (outline_contents a) (outline_contents c)
  synced (Ok done) a b c puts syncs = record {
    bytes = syncs.bytes ∙ puts.bytes;
    touches = touches_then at (length piece / 512) a b c puts.touches (settles_calm b c syncs);
    firm = λ s low high. settles_kept b c syncs s;
    untold = record { before = refl; after = refl };
  }
  synced (Err failed) a b c puts syncs = record {
    touches = touches_then at (length piece / 512) a b c puts.touches (may_settle_calm b c syncs);
    untold = record { before = refl; after = refl };
  }

  told_synced : {T E : Type 0} (result : Result T E) (x y z : Option Contents) → BothTell (PutsThere at piece) x y → BothTell (Syncs result) y z
      → BothTell (Lasts at piece result) (option_map outline_contents x) (option_map outline_contents z)
  told_synced result None None None puts syncs = tt
  told_synced result None None (Some z) puts syncs = absurd syncs
  told_synced result None (Some y) z puts syncs = absurd puts
  told_synced result (Some x) None z puts syncs = absurd puts
  told_synced result (Some x) (Some y) None puts syncs = absurd syncs
  told_synced result (Some x) (Some y) (Some z) puts syncs = synced result x y z puts syncs

  told_lost : (x y : Option Contents) → BothTell (Touches at (length piece / 512)) x y
      → BothTell (MayLose at (length piece)) (option_map outline_contents x) (option_map outline_contents y)
  told_lost None None touches = tt
  told_lost None (Some y) touches = absurd touches
  told_lost (Some x) None touches = absurd touches
  told_lost (Some x) (Some y) touches = record {
    touches = touches_then at (length piece / 512) x y y touches (calm_refl y);
    untold = record { before = refl; after = refl };
  }

-- a write and then a sync
pub synced_lasts : (T E : Type 0) (lasts : Bool) (at : ℕ) (piece : List ℕ) (done : T) (result : Result T E) (old between new : DiskState)
    → IsRange at (length piece) old.sectors → (let one : Result T E = Ok done in StoresAs lasts at piece one old between) → SyncsTo result between new
    → LastsTo at piece result (outline old) (outline new)
synced_lasts T E lasts at piece done result old between new range stores syncs = record {
  call = outlined_run 2 (is_err result) old new
      (run_then 1 1 (is_err result) old between new (stored_call {T = T} {E = E} lasts at piece (Ok done) old between stores) syncs.call);
  contents = told_synced at piece result old.contents between.contents new.contents (told_puts T E lasts at piece done old between range stores)
      syncs.contents;
  log = refl;
}

-- a write that failed, behind which nothing is synced
pub failed_lasts : (T E : Type 0) (lasts : Bool) (at : ℕ) (piece : List ℕ) (failed : E) (old new : DiskState) → IsRange at (length piece) old.sectors
    → (let result : Result T E = Err failed in StoresAs lasts at piece result old new)
    → (let result : Result T E = Err failed in LastsTo at piece result (outline old) (outline new))
failed_lasts T E lasts at piece failed old new range stores = record {
  call = outlined_run 1 true old new (stored_call {T = T} {E = E} lasts at piece (Err failed) old new stores);
  contents = told_lost at piece old.contents new.contents (told_touches T E lasts at piece failed old new range stores);
  log = refl;
}
