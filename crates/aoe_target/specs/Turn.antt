-- What a target does with one frame, in one word for the crates above.
use Rattle.std.specs.Prelude.{ℕ, ◌≡◌, true, false, List, [], Option}
use Rattle.std.specs.Bool.{OnTrue}
use Rattle.aoe_base.specs.Faults.{Rose}
use Rattle.aoe_disk.specs.State.{DiskState}
use Rattle.aoe_disk.specs.Calls.{IsRun, Logs}
use Rattle.aoe_store.specs.Under.{Under}
use Rattle.aoe_target.specs.declared.heard.Heard.{Heard}
use Rattle.aoe_target.specs.declared.heard.Heard.TheVariants as heard
use Rattle.aoe_target.specs.Device.{State, Holds}
use Rattle.aoe_target.specs.Law.{IsStep}
use Rattle.aoe_target.specs.Mounted.{Mounted, device_of}
use Rattle.aoe_target.specs.Receive.{calls_store, store_calls, edits, fate_of, is_faulty, is_unkept, MovesUnder, Replaces}
use Rattle.aoe_target.specs.Verdict.{verdict}

-- a target is handed a frame: a step of the shelf law for all that is known of it, and the calls of its store and of its keep, which
-- are made where the verdict says so. Where there is no reply out is empty, and a failed call is told only where the faults of its
-- disk rose
pub record Receives {S D : Type 0} (store : S → DiskState) (keep : D → DiskState) (before after : Mounted S D) (f : List ℕ) (h : Heard) (out : List ℕ) : Type 0 where
  pub station : after.station ≡ before.station
  pub step : (k : State) → Holds (device_of store keep before) k → IsStep before.station k f (fate_of h out) (device_of store keep after)
  pub silent : h ≡ heard.Silent → out ≡ []
  pub ignored : h ≡ heard.Ignored → out ≡ []
  pub call : OnTrue (calls_store (verdict before.station before.keep.lists f)) (IsRun 1 (is_faulty h) (store before.store) (store after.store))
  pub log : Logs (store_calls f (verdict before.station before.keep.lists f)) (store before.store) (store after.store)
  pub idle : calls_store (verdict before.station before.keep.lists f) ≡ false → after.store ≡ before.store
  pub fault : is_faulty h ≡ true → Rose (store before.store).faults (store after.store).faults
  pub edit : OnTrue (edits before.station before.keep.lists f (verdict before.station before.keep.lists f))
      (Replaces (is_unkept h) (keep before.keep.disk) (keep after.keep.disk))
  pub unedited : edits before.station before.keep.lists f (verdict before.station before.keep.lists f) ≡ false → after.keep ≡ before.keep
  pub edit_fault : is_unkept h ≡ true → Rose (keep before.keep.disk).faults (keep after.keep.disk).faults

-- and what the frame does to the disk of a store that writes later
abbrev pub TurnsDisk : {S D : Type 0} → (S → DiskState) → (S → Option Under) → List ℕ → Heard → Mounted S D → Mounted S D → Type 0
TurnsDisk store under f h before after =
    MovesUnder (verdict before.station before.keep.lists f) (is_faulty h) (store before.store).contents (under before.store) (under after.store)
