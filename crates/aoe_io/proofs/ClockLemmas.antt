-- The answers of a clock that goes by steps.
use Rattle.std.proofs.Common.{ℕ, zero, suc, ◌≡◌, ◌<◌, ◌+◌, ◌-◌, ◌*◌, ◌^◌, List, Option, length, min, refl, ap, arith, inl, inr}
use Rattle.std.proofs.lemmas.Bool.{cases_lt, lt-ltb, le-ltb}
use Rattle.aoe_io.specs.Ticking.{Ticking, answers_of, ticked, told_after, told_of}

length-answers : (start step count : ℕ) → length (answers_of start step count) ≡ count
length-answers start step zero = refl
length-answers start step (suc k) = ap suc (length-answers start step k)

-- what is told after one more answer
pub told-next : (start step count answer : ℕ) → (count < 2 ^ 64 - 1 → answer ≡ min (start + count * step) (2 ^ 64 - 1))
    → told_of start step (min (count + 1) (2 ^ 64 - 1)) ≡ told_after (told_of start step count) answer
told-next start step count answer is = elim (cases_lt count (2 ^ 64 - 1)) [
  | inl below ↦
      let next : min (count + 1) (2 ^ 64 - 1) ≡ suc count = omega arith in
      let long : length (answers_of start step count) + 1 ≡ suc count = omega (arith, length-answers start step count) in
      rw (next, lt-ltb count (2 ^ 64 - 1) below, long, is below) refl
  | inr over ↦
      let next : min (count + 1) (2 ^ 64 - 1) ≡ 2 ^ 64 - 1 = omega arith in
      rw (next, le-ltb count (2 ^ 64 - 1) over) refl
]

pub ticked-is : (c : Ticking) (coming : ℕ) (answers : Option (List ℕ)) → coming ≡ min (c.coming + c.step) (2 ^ 64 - 1) → answers ≡ told_after c.answers c.coming
    → record c { coming = coming; answers = answers } ≡ ticked c
ticked-is c coming answers coming_is answers_is = rw (coming_is, answers_is) refl
