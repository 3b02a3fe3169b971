-- Texts, one after the other.
use Rattle.std.proofs.Common.{◌≡◌, ◌∙◌, ◌+◌, ℕ, suc, List, ◌++◌, take, sym, ap, arith}
use Rattle.std.specs.Prelude.{Some, slice_get}
use Rattle.std.specs.List.{flat_map}
use Rattle.aoe_base.proofs.JoinLemmas.{flat_more}

pub one_more : {X : Type 0} (f : X → List ℕ) (xs : List X) (i : ℕ) (x : X) (out new : List ℕ) → slice_get xs i ≡ Some x
    → out ≡ flat_map f (take i xs) → new ≡ out ++ f x → new ≡ flat_map f (take (i + 1) xs)
one_more f xs i x out new at is new_is =
    let one : suc i ≡ i + 1 = omega arith in
    new_is ∙ ap (λ o. o ++ f x) is ∙ sym (flat_more f xs i x at) ∙ ap (λ k. flat_map f (take k xs)) one
