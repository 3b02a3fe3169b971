-- Device calls one after another, at the exits of a function.
use Rattle.std.proofs.Common.{◌≡◌, ◌≤◌, ◌+◌, ℕ, Bool, true, false, Result, Err, is_err, arith}
use Rattle.aoe_disk.specs.State.{DiskState}
use Rattle.aoe_disk.specs.Calls.{IsRun}
use Rattle.aoe_disk.proofs.Runs.{run_then, run_stop}
use Rattle.aoe_keep.specs.Keep.{RunsBetween}

-- one call more before others
pub runs_then : {l h m k : ℕ} {failed : Bool} {a b c : DiskState} → RunsBetween l h false a b → RunsBetween m k failed b c
    → RunsBetween (l + m) (h + k) failed a c
runs_then {failed = failed} {a = a} {b = b} {c = c} one two = record {
  calls = one.calls + two.calls;
  low = omega (arith, one.low, two.low);
  high = omega (arith, one.high, two.high);
  run = run_then one.calls two.calls failed a b c one.run two.run;
}

pub runs_within : {l h m k : ℕ} {failed : Bool} {a b : DiskState} → m ≤ l → h ≤ k → RunsBetween l h failed a b → RunsBetween m k failed a b
runs_within less more one = record { calls = one.calls; low = omega (arith, one.low); high = omega (arith, one.high); run = one.run }

pub one_run : {failed : Bool} {a b : DiskState} → IsRun 1 failed a b → RunsBetween 1 1 failed a b
one_run run = record { calls = 1; low = omega arith; high = omega arith; run = run }

-- a call failed, and no more are made
pub run_ends : {T E : Type 0} (m n : ℕ) (r : Result T E) (e : E) (failed : Bool) (a b : DiskState) → r ≡ Err e → failed ≡ true → m ≤ n → IsRun m (is_err r) a b
    → IsRun n failed a b
run_ends m n r e failed a b is f le run = rw f (run_stop m n a b le (rw is at run))
