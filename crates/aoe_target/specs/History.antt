-- The history of a device: the frames that came to it, each with what became of it, the latest first.
use Rattle.std.specs.Prelude.{ℕ, ◌+◌, ◌-◌, ◌^◌, ◌≤◌, min, List, [], ◌∷◌, Bool, true, false, if◌then◌else◌}
use Rattle.aoe_disk.specs.State.{DiskState}
use Rattle.aoe_target.specs.Device.{State}
use Rattle.aoe_target.specs.Law.{Fate, cut, replied, Allows, after}
use Rattle.aoe_target.specs.Receive.{is_fault, is_edit_fault}
use Rattle.aoe_target.specs.Verdict.{verdict}
use Rattle.aoe_target.specs.declared.station.Station.{Station}

-- a frame, and what became of it
pub record Met : Type 0 where
  pub frame : List ℕ
  pub fate : Fate

-- what the frames leave of what was known of the device
abbrev pub left_by : Station → State → List Met → State
left_by station k [] = k
left_by station k (m ∷ h) = let before = left_by station k h in after station m.frame (verdict station before.lists m.frame) m.fate before

-- what became of each frame is what the shelf law allows after those before it
abbrev pub AllAllowed : Station → State → List Met → Type 0
AllAllowed station k [] = Unit {0}
AllAllowed station k (m ∷ h) =
    let before = left_by station k h in
    Allows station before m.frame (verdict station before.lists m.frame) m.fate × AllAllowed station k h

-- the power was lost
abbrev pub is_cut : Fate → Bool
is_cut cut = true
is_cut fate = false

-- the store failed, or the keep did
abbrev pub store_failed : Fate → Bool
store_failed (replied e reply) = is_fault e
store_failed fate = false

abbrev pub keep_failed : Fate → Bool
keep_failed (replied e reply) = is_edit_fault e
keep_failed fate = false

-- how often it did
abbrev pub count_failed : (Fate → Bool) → List Met → ℕ
count_failed failed [] = 0
count_failed failed (m ∷ h) = count_failed failed h + (if failed m.fate then 1 else 0)

-- a disk counted as many faults at least, up to the end of its count
abbrev pub IsCounted : ℕ → DiskState → DiskState → Type 0
IsCounted faults old new = min (old.faults + faults) (2 ^ 64 - 1) ≤ new.faults
