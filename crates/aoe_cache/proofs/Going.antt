-- Device calls that go on after one that failed.
use Rattle.std.proofs.Common.{◌≡◌, ◌≤◌, ◌+◌, ◌-◌, ◌||◌, ℕ, Bool, true, false, Option, Some, None, is_none, refl, arith, ◌∙◌, subst, inl, inr}
use Rattle.std.proofs.lemmas.Bool.{cases_Bool, cases_lt}
use Rattle.aoe_base.proofs.CommonLemmas.{none-from, rose-before, rose-later, some-from}
use Rattle.aoe_disk.specs.State.{Schedule, DiskState, BothTell}
use Rattle.aoe_disk.specs.Calls.{MovesDue, MovesDueCall, MovesOn, IsRun}
use Rattle.aoe_disk.proofs.Runs.{is_none_same, run_then}

-- the failure that was due came: none does any more, or each call fails from then on
due_on : (m n : ℕ) (failed is_stop : Bool) (a b c : Option ℕ) → MovesDue m true is_stop a b → MovesDue n failed is_stop b c → MovesDue (m + n) true is_stop a c
due_on m n failed i None b c t u = let wrong : true ≡ false = t.0 in cc
due_on m n failed false (Some k) b c t u =
    let v : MovesDue n failed false None c = subst (λ w. MovesDue n failed false w c) t.1 u in
    (omega (arith, t.0), v.1)
due_on m n false true (Some k) b c t u =
    let v : MovesDueCall n false true 1 c = subst (λ w. MovesDue n false true w c) t.1 u in
    let one : 1 - n ≡ 1 = omega (arith, v.0) in
    (omega (arith, t.0), rw one at v.1)
due_on m n true true (Some k) b c t u =
    let v : MovesDueCall n true true 1 c = subst (λ w. MovesDue n true true w c) t.1 u in
    (omega (arith, t.0), v.1)

dues_on : (m n : ℕ) (failed i j : Bool) (a b c : Option (Option ℕ)) → j ≡ i → BothTell (MovesDue m true i) a b → BothTell (MovesDue n failed j) b c
    → BothTell (MovesDue (m + n) true i) a c
dues_on m n f i j None None None e t u = tt
dues_on m n f i j None None (Some z) e t u = u
dues_on m n f i j None (Some y) c e t u = absurd t
dues_on m n f i j (Some x) None c e t u = absurd t
dues_on m n f i j (Some x) (Some y) None e t u = u
dues_on m n f i j (Some x) (Some y) (Some z) e t u = due_on m n f i x y z t (subst (λ w. MovesDue n f w y z) e u)

move_on : (m n : ℕ) (failed : Bool) (p q r : ℕ) (a b c : Schedule) → p ≤ q → q ≤ r → MovesOn m true p q a b → MovesOn n failed q r b c
    → MovesOn (m + n) true p r a c
move_on m n f p q r a b c l h t u = record {
  kind = u.kind ∙ t.kind;
  fewer = λ e. omega (arith, t.fewer e, u.fewer (some-from a.armed b.armed t.kind e));
  stop = λ e more. elim (cases_lt q r) [
    | inl later ↦ u.stop (none-from a.armed b.armed t.kind e) later
    | inr same ↦ u.stays_out (t.stop e (omega arith))
  ];
  out_by_fault = λ was is. elim (cases_Bool b.out) [
    | inl yet ↦ rose-before p q r h (t.out_by_fault was yet)
    | inr not ↦ rose-later p q r l h (u.out_by_fault not is)
  ];
  out_by_failure = λ told was is. refl;
  stays_out = λ e. u.stays_out (t.stays_out e);
  due = dues_on m n f (is_none a.armed) (is_none b.armed) a.due b.due c.due (is_none_same a.armed b.armed t.kind) t.due u.due;
}

moves_on : (m n : ℕ) (failed : Bool) (p q r : ℕ) (a b c : Option Schedule) → p ≤ q → q ≤ r → BothTell (MovesOn m true p q) a b
    → BothTell (MovesOn n failed q r) b c → BothTell (MovesOn (m + n) true p r) a c
moves_on m n f p q r None None None l h t u = tt
moves_on m n f p q r None None (Some z) l h t u = u
moves_on m n f p q r None (Some y) c l h t u = absurd t
moves_on m n f p q r (Some x) None c l h t u = absurd t
moves_on m n f p q r (Some x) (Some y) None l h t u = u
moves_on m n f p q r (Some x) (Some y) (Some z) l h t u = move_on m n f p q r x y z l h t u

-- calls of which one failed, and more calls
pub run_on : (m n : ℕ) (failed : Bool) (a b c : DiskState) → IsRun m true a b → IsRun n failed b c → IsRun (m + n) true a c
run_on m n f a b c t u = record {
  before = t.before;
  after = u.after;
  sectors = u.sectors ∙ t.sectors;
  tells = u.tells ∙ t.tells;
  later = omega (arith, t.later, u.later);
  cause = rose-before a.faults b.faults c.faults u.later t.cause;
  schedule = moves_on m n f a.faults b.faults c.faults a.schedule b.schedule c.schedule t.later u.later t.schedule u.schedule;
}

-- calls and more calls, of each of which one failed or none
pub run_also : (m n : ℕ) (x y : Bool) (a b c : DiskState) → IsRun m x a b → IsRun n y b c → IsRun (m + n) (x || y) a c
run_also m n true y a b c t u = run_on m n y a b c t u
run_also m n false y a b c t u = run_then m n y a b c t u
