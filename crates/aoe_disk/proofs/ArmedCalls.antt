-- Which calls of an armed disk fail.
use Rattle.std.proofs.Common.{◌≡◌, ◌⊎◌, ◌≤◌, ◌<◌, ◌+◌, ◌-◌, ◌==◌, ℕ, nat_le, Bool, true, false, Option, Some, None, IsSomeAnd, is_none, List, [], ◌∷◌, refl, arith, sym, ◌∙◌, ap, subst, inl, inr}
use Rattle.std.proofs.lemmas.Bool.{eq-eqb, ne_eqb, le-leb, lt-leb}
use Rattle.aoe_disk.specs.State.{Schedule, DiskState, BothTell}
use Rattle.aoe_disk.specs.Calls.{MovesDueCall, MovesDue, MovesOn}
use Rattle.aoe_disk.specs.Arming.{IsArmed, Calls, FailsFrom, number_of}
use Rattle.aoe_disk.specs.declared.armed.Arm.{Arm}
use Rattle.aoe_disk.specs.declared.armed.Arm.TheVariants.{Fail, Stop}
use Rattle.aoe_disk.proofs.Runs.{is_none_same}

-- which call is due is told, while a stop is armed or not
Tells : Option Schedule → Bool → Option ℕ → Type 0
Tells schedule is_stop due = IsSomeAnd schedule (λ s. (is_none s.armed ≡ is_stop) × (s.due ≡ Some due))

due_moves : (failed is_stop : Bool) (a b : Option (Option ℕ)) (due : Option ℕ) → BothTell (MovesDue 1 failed is_stop) a b → a ≡ Some due
    → (next : Option ℕ) × (b ≡ Some next) × MovesDue 1 failed is_stop due next
due_moves f i None None due t e = cc
due_moves f i None (Some b) due t e = cc
due_moves f i (Some a) None due t e = absurd t
due_moves f i (Some a) (Some b) due t e = let same : a ≡ due = cc in (b, refl, subst (λ d. MovesDue 1 f i d b) same t)

call_moves : (failed is_stop : Bool) (before after : ℕ) (x y : Option Schedule) (due : Option ℕ) → BothTell (MovesOn 1 failed before after) x y
    → Tells x is_stop due → (next : Option ℕ) × Tells y is_stop next × MovesDue 1 failed is_stop due next
unfolding Tells
call_moves f i p q None y due t h = absurd h
call_moves f i p q (Some x) None due t h = absurd t
call_moves f i p q (Some x) (Some y) due t (kind, told) =
    let m = due_moves f i x.due y.due due (subst (λ b. BothTell (MovesDue 1 f b) x.due y.due) kind t.due) told in
    (m.0, (is_none_same x.armed y.armed t.kind ∙ kind, m.1), m.2)

-- what is due before call i, where the k-th is to fail and no other
FailStage : ℕ → ℕ → Option ℕ → Type 0
FailStage k i due = ((i ≤ k) × (due ≡ Some (k + 1 - i))) ⊎ ((k < i) × (due ≡ None))

fail_step : (failed : Bool) (k i : ℕ) (due next : Option ℕ) → FailStage k i due → MovesDue 1 failed false due next
    → (failed ≡ (i == k)) × FailStage k (i + 1) next
unfolding FailStage
fail_step false k i due next (inl (le, e)) moves =
    let v : MovesDueCall 1 false false (k + 1 - i) next = subst (λ d. MovesDue 1 false false d next) e moves in
    (sym (ne_eqb i k (omega (arith, v.0))), inl (omega (arith, v.0), v.1 ∙ ap Some (omega arith)))
fail_step true k i due next (inl (le, e)) moves =
    let v : MovesDueCall 1 true false (k + 1 - i) next = subst (λ d. MovesDue 1 true false d next) e moves in
    (sym (eq-eqb i k (omega (arith, v.0))), inr (omega (arith, v.0), v.1))
fail_step failed k i due next (inr (lt, e)) moves =
    let v : (failed ≡ false) × (next ≡ None) = subst (λ d. MovesDue 1 failed false d next) e moves in
    (v.0 ∙ sym (ne_eqb i k (omega arith)), inr (omega arith, v.1))

-- the same where the k-th and all later ones are to fail
StopStage : ℕ → ℕ → Option ℕ → Type 0
StopStage k i due = ((i ≤ k) × (due ≡ Some (k + 1 - i))) ⊎ ((k < i) × (due ≡ Some 1))

stop_step : (failed : Bool) (k i : ℕ) (due next : Option ℕ) → StopStage k i due → MovesDue 1 failed true due next
    → (failed ≡ nat_le k i) × StopStage k (i + 1) next
unfolding StopStage
stop_step false k i due next (inl (le, e)) moves =
    let v : MovesDueCall 1 false true (k + 1 - i) next = subst (λ d. MovesDue 1 false true d next) e moves in
    (sym (lt-leb k i (omega (arith, v.0))), inl (omega (arith, v.0), v.1 ∙ ap Some (omega arith)))
stop_step true k i due next (inl (le, e)) moves =
    let v : MovesDueCall 1 true true (k + 1 - i) next = subst (λ d. MovesDue 1 true true d next) e moves in
    (sym (le-leb k i (omega (arith, v.0))), inr (omega (arith, v.0), v.1))
stop_step false k i due next (inr (lt, e)) moves =
    let v : MovesDueCall 1 false true 1 next = subst (λ d. MovesDue 1 false true d next) e moves in
    absurd (omega (arith, v.0))
stop_step true k i due next (inr (lt, e)) moves =
    let v : MovesDueCall 1 true true 1 next = subst (λ d. MovesDue 1 true true d next) e moves in
    (sym (le-leb k i (omega arith)), inr (omega arith, v.1))

fails_from : (k i : ℕ) (calls : List Bool) (old new : DiskState) (due : Option ℕ) → FailStage k i due → Tells old.schedule false due → Calls calls old new
    → FailsFrom i (Fail k) calls
fails_from k i [] old new due stage told calls = tt
fails_from k i (failed ∷ rest) old new due stage told (next, run, calls) =
    let m = call_moves failed false old.faults next.faults old.schedule next.schedule due run.schedule told in
    let s = fail_step failed k i due m.0 stage m.2 in
    (s.0, fails_from k (i + 1) rest next new m.0 s.1 m.1 calls)

stops_from : (k i : ℕ) (calls : List Bool) (old new : DiskState) (due : Option ℕ) → StopStage k i due → Tells old.schedule true due → Calls calls old new
    → FailsFrom i (Stop k) calls
stops_from k i [] old new due stage told calls = tt
stops_from k i (failed ∷ rest) old new due stage told (next, run, calls) =
    let m = call_moves failed true old.faults next.faults old.schedule next.schedule due run.schedule told in
    let s = stop_step failed k i due m.0 stage m.2 in
    (s.0, stops_from k (i + 1) rest next new m.0 s.1 m.1 calls)

tells_fail : (k : ℕ) (x : Option Schedule) → IsSomeAnd x (λ s. IsSomeAnd s.armed (λ n. n ≤ 1) × (s.due ≡ Some (Some k))) → Tells x false (Some k)
unfolding Tells
tells_fail k None h = absurd h
tells_fail k (Some x) (armed, due) = (numbered x.armed armed, due)
  where
    numbered : (o : Option ℕ) → IsSomeAnd o (λ n. n ≤ 1) → is_none o ≡ false
    numbered None h = absurd h
    numbered (Some n) h = refl

tells_stop : (k : ℕ) (x : Option Schedule) → IsSomeAnd x (λ s. (s.armed ≡ None) × (s.due ≡ Some (Some k))) → Tells x true (Some k)
unfolding Tells
tells_stop k None h = absurd h
tells_stop k (Some x) (armed, due) = (ap is_none armed, due)

pub armed_fails : (arm : Arm) (calls : List Bool) (old new : DiskState) → 0 < number_of arm → IsArmed arm old → Calls calls old new → FailsFrom 1 arm calls
unfolding FailStage StopStage
armed_fails (Fail k) calls old new from_one armed ran = fails_from k 1 calls old new (Some k) (inl (omega arith, ap Some (omega arith)))
    (tells_fail k old.schedule armed) ran
armed_fails (Stop k) calls old new from_one armed ran = stops_from k 1 calls old new (Some k) (inl (omega arith, ap Some (omega arith)))
    (tells_stop k old.schedule armed) ran
