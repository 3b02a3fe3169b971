-- A disk in memory, as contracts see it.
use Rattle.std.specs.Prelude.{◌≡◌, ◌≤◌, ◌<◌, ◌+◌, ◌*◌, min, ◌/◌, ◌-◌, ◌^◌, ℕ, Bool, true, false, Option, None, Some, List, length, replicate}
use Rattle.std.specs.Option.{option_map}
use Rattle.aoe_disk.specs.State.{Contents, Schedule, DiskState, sector, is_loose}
use Rattle.aoe_disk.specs.Arming.{number_of}
use Rattle.aoe_disk.specs.declared.armed.Arm.{Arm}
use Rattle.aoe_disk.specs.declared.armed.Arm.TheVariants.{Fail, Stop}

-- the bytes now and those of the last sync, the marks, what is armed, whether a stop was reached,
-- and how many calls failed and were made
pub record Memory : Type 0 where
  pub bytes : List ℕ
  pub settled : List ℕ
  pub loose : List Bool
  pub arming : Option Arm
  pub out : Bool
  pub faults : ℕ
  pub calls : ℕ

abbrev pub contents_of : Memory → Contents
contents_of m = record { bytes = m.bytes; loose = m.loose; settled = Some m.settled }

-- how many calls can still fail: none, one, or no number while a stop is armed
abbrev pub armed_of : Option Arm → Option ℕ
armed_of None = Some 0
armed_of (Some (Fail k)) = Some 1
armed_of (Some (Stop k)) = None

abbrev pub schedule_of : Option Arm → Bool → Schedule
schedule_of arming out = record { armed = armed_of arming; out = out; due = Some (option_map number_of arming) }

-- a disk in memory tells everything but its calls, which it counts
abbrev pub state_of : Memory → DiskState
state_of m = record {
  sectors = length m.loose;
  faults = m.faults;
  contents = Some (contents_of m);
  schedule = Some (schedule_of m.arming m.out);
  log = None;
}

-- a disk with this image that was never called
abbrev pub fresh : List ℕ → Memory
fresh image = record {
  bytes = image;
  settled = image;
  loose = replicate (length image / 512) false;
  arming = None;
  out = false;
  faults = 0;
  calls = 0;
}

-- a count of calls after one more: it stands still at its type's end
abbrev pub next_count : ℕ → ℕ
next_count calls = min (calls + 1) (2 ^ 64 - 1)

-- two images agree in every sector that isn't loose
abbrev pub AgreesWhereKept : List Bool → List ℕ → List ℕ → Type 0
AgreesWhereKept loose now settled = (s : ℕ) → is_loose loose s ≡ false → sector settled s ≡ sector now s

-- what is armed counts from one, and a disk that reached a stop has one armed
abbrev pub IsArming : Option Arm → Bool → Type 0
IsArming None out = out ≡ false
IsArming (Some (Fail k)) out = (0 < k) × (out ≡ false)
IsArming (Some (Stop k)) out = 0 < k

-- one call: the armed number falls to the call that fails, after which a stop stays
abbrev pub IsAdvance : Bool → Option Arm → Bool → Option Arm → Bool → Type 0
IsAdvance failed None out arming' out' = (failed ≡ false) × (arming' ≡ None) × (out' ≡ out)
IsAdvance true (Some (Fail k)) out arming' out' = (k ≡ 1) × (arming' ≡ None) × (out' ≡ out)
IsAdvance false (Some (Fail k)) out arming' out' = (1 < k) × (arming' ≡ Some (Fail (k - 1))) × (out' ≡ out)
IsAdvance true (Some (Stop k)) out arming' out' = (k ≡ 1) × (arming' ≡ Some (Stop 1)) × (out' ≡ true)
IsAdvance false (Some (Stop k)) out arming' out' = (1 < k) × (arming' ≡ Some (Stop (k - 1))) × (out' ≡ out)

-- what the fields of a disk in memory keep
pub record IsMemory (bytes base : List ℕ) (marks : List Bool) (plan : Option Arm) (out : Bool) : Type 0 where
  pub bound : length marks ≤ 2 ^ 40
  pub now : length bytes ≡ 512 * length marks
  pub settled : length base ≡ 512 * length marks
  pub agrees : AgreesWhereKept marks bytes base
  pub arming : IsArming plan out
