-- Which calls are to fail.
use Rattle.std.specs.Prelude.{◌≡◌, ◌≤◌, ◌+◌, ◌==◌, ℕ, nat_le, Bool, false, Option, None, Some, IsSomeAnd, List, [], ◌∷◌}
use Rattle.aoe_disk.specs.State.{Schedule, DiskState, BothTell}
use Rattle.aoe_disk.specs.Calls.{IsRun}
use Rattle.aoe_disk.specs.declared.armed.Arm.{Arm}
use Rattle.aoe_disk.specs.declared.armed.Arm.TheVariants.{Fail, Stop}

-- the coming call that is to fail, counted from 1
abbrev pub number_of : Arm → ℕ
number_of (Fail k) = k
number_of (Stop k) = k

-- how many calls can fail: at most one, or no number while a stop is armed
abbrev pub IsArmedBy : Arm → Option ℕ → Type 0
IsArmedBy (Fail k) armed = IsSomeAnd armed (λ n. n ≤ 1)
IsArmedBy (Stop k) armed = armed ≡ None

-- what was armed before counts no more
pub record Arms (arm : Arm) (old new : Schedule) : Type 0 where
  pub armed : IsArmedBy arm new.armed
  pub out : new.out ≡ false
  pub due : BothTell (λ _ due. due ≡ Some (number_of arm)) old.due new.due

-- arming changes the schedule alone
pub record ArmsTo (arm : Arm) (old new : DiskState) : Type 0 where
  pub sectors : new.sectors ≡ old.sectors
  pub faults : new.faults ≡ old.faults
  pub contents : new.contents ≡ old.contents
  pub schedule : BothTell (Arms arm) old.schedule new.schedule
  pub log : new.log ≡ old.log

-- a disk that tells its schedule, just armed
abbrev pub IsArmed : Arm → DiskState → Type 0
IsArmed arm disk = IsSomeAnd disk.schedule (λ s. IsArmedBy arm s.armed × (s.due ≡ Some (Some (number_of arm))))

-- device calls one after another, each with whether it failed
abbrev pub Calls : List Bool → DiskState → DiskState → Type 0
Calls [] old new = new ≡ old
Calls (failed ∷ rest) old new = (next : DiskState) × IsRun 1 failed old next × Calls rest next new

-- whether the i-th call is to fail, counted from 1
abbrev pub is_to_fail : Arm → ℕ → Bool
is_to_fail (Fail k) i = i == k
is_to_fail (Stop k) i = nat_le k i

-- the i-th call and those after it fail where they are to, and nowhere else
abbrev pub FailsFrom : ℕ → Arm → List Bool → Type 0
FailsFrom i arm [] = Unit {0}
FailsFrom i arm (failed ∷ rest) = (failed ≡ is_to_fail arm i) × FailsFrom (i + 1) arm rest
