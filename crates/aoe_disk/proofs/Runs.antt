-- Runs of device calls, one after another.
use Rattle.std.proofs.Common.{◌≡◌, ◌≤◌, ◌<◌, ◌+◌, ◌-◌, ℕ, Bool, true, false, Option, Some, None, IfSome, IsSome, is_some, is_none, List, [], ◌∷◌, ◌++◌, length, take, refl, sym, arith, ◌∙◌, ap, subst, length-append}
use Rattle.std.specs.Bool.{OnTrue}
use Rattle.std.specs.Option.{option_map}
use Rattle.std.proofs.lemmas.Bool.{cases_lt, cases_Bool}
use Rattle.std.proofs.lemmas.List.{append_assoc, append-nil, take-append-le}
use Rattle.std.proofs.Math.Seq.{take-length, take-append-add}
use Rattle.aoe_base.specs.Faults.{Rose}
use Rattle.aoe_base.proofs.CommonLemmas.{none-from, rose-before, rose-later, some-from}
use Rattle.aoe_disk.specs.State.{Schedule, DiskState, DeviceCall, IsDisk, IsSchedule, BothTell}
use Rattle.aoe_disk.specs.Calls.{MovesDueCall, MovesDue, MovesOn, IsRun, Logs, Makes}
use Rattle.std.proofs.Common.{inl, inr}

-- no call

due_none : (is_stop : Bool) (due : Option (Option ℕ)) → IfSome due (λ d. IfSome d (λ k. 0 < k)) → BothTell (MovesDue 0 false is_stop) due due
due_none i None h = tt
due_none i (Some None) h = (refl, refl)
due_none i (Some (Some k)) h = (h, ap Some (omega arith))

moves_none : (faults : ℕ) (s : Option Schedule) → IfSome s IsSchedule → BothTell (MovesOn 0 false faults faults) s s
moves_none f None h = tt
moves_none f (Some s) h = record {
  kind = refl;
  fewer = λ _. omega arith;
  stop = λ _ more. absurd (omega arith);
  out_by_fault = λ was is. cc;
  out_by_failure = λ _ was is. cc;
  stays_out = λ e. e;
  due = due_none (is_none s.armed) s.due h.from_one;
}

pub run_none : (d : DiskState) → IsDisk d → IsRun 0 false d d
run_none d h = record {
  before = h;
  after = h;
  sectors = refl;
  tells = refl;
  later = omega arith;
  cause = tt;
  schedule = moves_none d.faults d.schedule h.schedule;
}

-- a call failed, and no more are made

due_stop : (m n : ℕ) (is_stop : Bool) (old new : Option (Option ℕ)) → m ≤ n → BothTell (MovesDue m true is_stop) old new
    → BothTell (MovesDue n true is_stop) old new
due_stop m n i None None le t = tt
due_stop m n i None (Some y) le t = t
due_stop m n i (Some x) None le t = t
due_stop m n i (Some None) (Some y) le t = t
due_stop m n i (Some (Some k)) (Some y) le t = (omega (arith, t.0), t.1)

moves_stop : (m n before after : ℕ) (old new : Option Schedule) → m ≤ n → BothTell (MovesOn m true before after) old new
    → BothTell (MovesOn n true before after) old new
moves_stop m n b a None None le t = tt
moves_stop m n b a None (Some y) le t = t
moves_stop m n b a (Some x) None le t = t
moves_stop m n b a (Some x) (Some y) le t = record {
  kind = t.kind;
  fewer = t.fewer;
  stop = t.stop;
  out_by_fault = t.out_by_fault;
  out_by_failure = t.out_by_failure;
  stays_out = t.stays_out;
  due = due_stop m n (is_none x.armed) x.due y.due le t.due;
}

pub run_stop : (m n : ℕ) (old new : DiskState) → m ≤ n → IsRun m true old new → IsRun n true old new
run_stop m n old new le run = record {
  before = run.before;
  after = run.after;
  sectors = run.sectors;
  tells = run.tells;
  later = run.later;
  cause = run.cause;
  schedule = moves_stop m n old.faults new.faults old.schedule new.schedule le run.schedule;
}

-- m calls that didn't fail, and then n more

due_more : (m n : ℕ) (failed i : Bool) (a b c : Option ℕ) → MovesDue m false i a b → MovesDue n failed i b c → MovesDue (m + n) failed i a c
due_more m n failed i None b c t u = subst (λ w. MovesDue n failed i w c) t.1 u
due_more m n false i (Some k) b c t u =
    let v : MovesDueCall n false i (k - m) c = subst (λ w. MovesDue n false i w c) t.1 u in
    (omega (arith, t.0, v.0), v.1 ∙ ap Some (omega arith))
due_more m n true i (Some k) b c t u =
    let v : MovesDueCall n true i (k - m) c = subst (λ w. MovesDue n true i w c) t.1 u in
    (omega (arith, t.0, v.0), v.1)

due_then : (m n : ℕ) (failed i j : Bool) (a b c : Option (Option ℕ)) → j ≡ i → BothTell (MovesDue m false i) a b → BothTell (MovesDue n failed j) b c
    → BothTell (MovesDue (m + n) failed i) a c
due_then m n f i j None None None e t u = tt
due_then m n f i j None None (Some z) e t u = u
due_then m n f i j None (Some y) c e t u = absurd t
due_then m n f i j (Some x) None c e t u = absurd t
due_then m n f i j (Some x) (Some y) None e t u = u
due_then m n f i j (Some x) (Some y) (Some z) e t u = due_more m n f i x y z t (subst (λ w. MovesDue n f w y z) e u)

also_told : {A B : Type 0} (R : A → B → Type 0) (x : Option A) (y : Option B) → BothTell R x y → IsSome x → IsSome y
also_told R None y t h = cc
also_told R (Some a) None t h = absurd t
also_told R (Some a) (Some b) t h = refl

pub is_none_same : {A : Type 0} (x y : Option A) → is_some y ≡ is_some x → is_none y ≡ is_none x
is_none_same None None k = refl
is_none_same None (Some y) k = cc
is_none_same (Some x) None k = cc
is_none_same (Some x) (Some y) k = refl

move_then : (m n : ℕ) (failed : Bool) (p q r : ℕ) (a b c : Schedule) → p ≤ q → q ≤ r → MovesOn m false p q a b → MovesOn n failed q r b c
    → MovesOn (m + n) failed p r a c
move_then m n f p q r a b c l h t u = record {
  kind = u.kind ∙ t.kind;
  fewer = λ e. omega (arith, t.fewer e, u.fewer (some-from a.armed b.armed t.kind e));
  stop = λ e more. elim (cases_lt q r) [
    | inl later ↦ u.stop (none-from a.armed b.armed t.kind e) later
    | inr same ↦ u.stays_out (t.stop e (omega arith))
  ];
  out_by_fault = λ was is. elim (cases_Bool b.out) [
    | inl yet ↦ rose-before p q r h (t.out_by_fault was yet)
    | inr not ↦ rose-later p q r l h (u.out_by_fault not is)
  ];
  out_by_failure = λ told was is. elim (cases_Bool b.out) [
    | inl yet ↦ let e : false ≡ true = t.out_by_failure told was yet in cc
    | inr not ↦ u.out_by_failure (also_told _ a.due b.due t.due told) not is
  ];
  stays_out = λ e. u.stays_out (t.stays_out e);
  due = due_then m n f (is_none a.armed) (is_none b.armed) a.due b.due c.due (is_none_same a.armed b.armed t.kind) t.due u.due;
}

moves_then : (m n : ℕ) (failed : Bool) (p q r : ℕ) (a b c : Option Schedule) → p ≤ q → q ≤ r → BothTell (MovesOn m false p q) a b
    → BothTell (MovesOn n failed q r) b c → BothTell (MovesOn (m + n) failed p r) a c
moves_then m n f p q r None None None l h t u = tt
moves_then m n f p q r None None (Some z) l h t u = u
moves_then m n f p q r None (Some y) c l h t u = absurd t
moves_then m n f p q r (Some x) None c l h t u = absurd t
moves_then m n f p q r (Some x) (Some y) None l h t u = u
moves_then m n f p q r (Some x) (Some y) (Some z) l h t u = move_then m n f p q r x y z l h t u

cause_later : (failed : Bool) (a b c : ℕ) → a ≤ b → b ≤ c → OnTrue failed (Rose b c) → OnTrue failed (Rose a c)
cause_later false a b c l m h = h
cause_later true a b c l m h = rose-later a b c l m h

pub run_then : (m n : ℕ) (failed : Bool) (a b c : DiskState) → IsRun m false a b → IsRun n failed b c → IsRun (m + n) failed a c
run_then m n f a b c t u = record {
  before = t.before;
  after = u.after;
  sectors = u.sectors ∙ t.sectors;
  tells = u.tells ∙ t.tells;
  later = omega (arith, t.later, u.later);
  cause = cause_later f a.faults b.faults c.faults t.later u.later u.cause;
  schedule = moves_then m n f a.faults b.faults c.faults a.schedule b.schedule c.schedule t.later u.later t.schedule u.schedule;
}

-- the calls of a run, and those of the next
pub logs_then : (xs ys : List DeviceCall) (a b c : DiskState) → Logs xs a b → Logs ys b c → Logs (xs ++ ys) a c
logs_then xs ys a b c one two = two ∙ ap (option_map (λ made. made ++ ys)) one ∙ joined a.log
  where
    joined : (log : Option (List DeviceCall)) → option_map (λ made. made ++ ys) (option_map (λ made. made ++ xs) log)
        ≡ option_map (λ made. made ++ (xs ++ ys)) log
    joined None = refl
    joined (Some made) = ap Some (append_assoc made xs ys)

-- no call
pub logs_none : (a : DiskState) → Logs [] a a
logs_none a = same a.log
  where
    same : (log : Option (List DeviceCall)) → log ≡ option_map (λ made. made ++ []) log
    same None = refl
    same (Some made) = ap Some (sym (append-nil made))

unfoldable pub makes_one : (call : DeviceCall) (failed : Bool) (a b : DiskState) → Logs (call ∷ []) a b → Makes (call ∷ []) failed a b
makes_one call failed a b log = record { made = 1; within = omega arith; some = λ _. omega arith; all = λ _. refl; log = log }

-- none of these calls failed, and others follow
unfoldable pub makes_then : (xs ys : List DeviceCall) (failed : Bool) (a b c : DiskState) → Makes xs false a b → Makes ys failed b c
    → Makes (xs ++ ys) failed a c
makes_then xs ys failed a b c one two =
    let whole : one.made ≡ length xs = one.all refl in
    let size = length-append xs ys in
    let first : Logs xs a b = subst (λ l. Logs l a b) (ap (λ (n : ℕ). take n xs) whole ∙ take-length xs) one.log in
    record {
      made = length xs + two.made;
      within = omega (arith, size, two.within);
      some = λ e. let some = two.some e in omega (arith, some);
      all = λ e. ap (λ (n : ℕ). length xs + n) (two.all e) ∙ sym size;
      log = subst (λ l. Logs l a c) (sym (take-append-add xs ys two.made)) (logs_then xs (take two.made ys) a b c first two.log);
    }

-- one of these calls failed, so no others follow
unfoldable pub makes_stop : (xs ys : List DeviceCall) (a b : DiskState) → Makes xs true a b → Makes (xs ++ ys) true a b
makes_stop xs ys a b one = record {
  made = one.made;
  within = omega (arith, one.within, length-append xs ys);
  some = one.some;
  all = λ e. cc;
  log = subst (λ l. Logs l a b) (sym (take-append-le one.made xs ys one.within)) one.log;
}
