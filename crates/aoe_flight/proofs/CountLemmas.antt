-- What is counted is there.
use Rattle.std.proofs.Common.{◌≡◌, ◌<◌, Bool, true, false, List, [], ◌∷◌, inl, inr, refl, ap, ◌∙◌, arith}
use Rattle.std.specs.List.{count_by}
use Rattle.std.specs.Prelude.{Contains}
use Rattle.slab.proofs.SlabLemmas.{Contains-cons, Contains-cons_cases}
use Rattle.aoe_base.proofs.CountLemmas.{count-cons, count-no, count-yes}

pub some-counted : {X : Type 0} (test : X → Bool) (xs : List X) (c : X) → Contains xs c → test c ≡ true → 0 < count_by test xs
some-counted test [] c there passes = absurd (omega (arith, there.1))
some-counted test (x ∷ xs) c there passes = elim (Contains-cons_cases x c xs there) [
  | inl same ↦ omega (arith, count-yes test x xs (ap test same ∙ passes))
  | inr behind ↦ omega (arith, count-cons test x xs, some-counted test xs c behind passes)
]

pub counted-some : {X : Type 0} (test : X → Bool) (xs : List X) → 0 < count_by test xs → (c : X) × Contains xs c × (test c ≡ true)
counted-some test [] some = absurd (omega (arith, some))
counted-some {X} test (x ∷ xs) some = at (test x) refl (counted-some test xs)
  where
    at : (b : Bool) → test x ≡ b → (0 < count_by test xs → (c : X) × Contains xs c × (test c ≡ true)) → (c : X) × Contains (x ∷ xs) c × (test c ≡ true)
    at true is rest = (x, (0, omega arith, refl), is)
    at false is rest =
        let behind = rest (omega (arith, some, count-no test x xs is)) in
        (behind.0, Contains-cons x behind.0 xs behind.1, behind.2)
