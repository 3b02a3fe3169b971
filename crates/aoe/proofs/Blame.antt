-- What one answer tells of an object, another tells.
use Rattle.std.proofs.Common.{◌≡◌, ◌≤◌, ◌+◌, ℕ, List, [], ◌∷◌}
use Rattle.std.specs.Prelude.{◌↔◌}
use Rattle.aoe_serve.specs.Exporting.{AtFirst}
use Rattle.aoe_base.specs.Faults.{Blamed, Rose}

module _ (told was : Type 0) (is : told ↔ was) where
  pub blamed : (a b : ℕ) → (was → Rose a b) → ((was → ⊥) → b ≡ a) → b ≤ a + 1 → Blamed told a b
  blamed a b cause no_fault one_fault = record {
    cause = λ e. cause (is.0 e);
    no_fault = λ untold. no_fault (λ e. untold (is.1 e));
    one_fault = one_fault;
  }

  pub retold : (a b : ℕ) → Blamed was a b → Blamed told a b
  retold a b x = blamed a b x.cause x.no_fault x.one_fault

-- what is so of the first where R is
pub at-first : {X : Type 0} (R T : X → X → Type 0) (xs ys : List X) → ((x y : X) → R x y → T x y) → AtFirst R xs ys → AtFirst T xs ys
at-first R T [] [] so r = tt
at-first R T [] (y ∷ ys) so r = r
at-first R T (x ∷ xs) [] so r = r
at-first R T (x ∷ xs) (y ∷ ys) so r = (so x y r.0, r.1)
