-- Lines, one after the other.
use Rattle.std.proofs.Common.{◌≡◌, ◌∙◌, ◌+◌, ℕ, suc, List, [], ◌∷◌, ◌++◌, take, sym, ap, arith, append_assoc}
use Rattle.std.specs.Prelude.{Some, slice_get}
use Rattle.std.specs.List.{flat_map}
use Rattle.aoe_base.proofs.JoinLemmas.{flat_more}
use Rattle.aoe_script.specs.Print.{line_text, spelled}

pub one_line : {X : Type 0} (ws : X → List (List ℕ)) (xs : List X) (i : ℕ) (x : X) (start out mid new : List ℕ) → slice_get xs i ≡ Some x
    → out ≡ start ++ flat_map (λ x. line_text (ws x)) (take i xs) → mid ≡ out ++ spelled (ws x) → new ≡ mid ++ 10 ∷ []
    → new ≡ start ++ flat_map (λ x. line_text (ws x)) (take (i + 1) xs)
one_line {X} ws xs i x start out mid new at is words_are end_is =
    let one : suc i ≡ i + 1 = omega arith in
    let f : X → List ℕ = λ x. line_text (ws x) in
    end_is ∙ ap (λ m. m ++ 10 ∷ []) (words_are ∙ ap (λ o. o ++ spelled (ws x)) is)
    ∙ append_assoc (start ++ flat_map f (take i xs)) (spelled (ws x)) (10 ∷ [])
    ∙ append_assoc start (flat_map f (take i xs)) (spelled (ws x) ++ 10 ∷ [])
    ∙ ap (λ t. start ++ t) (sym (flat_more f xs i x at) ∙ ap (λ k. flat_map f (take k xs)) one)
