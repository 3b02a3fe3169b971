-- Texts that are joined, one part after the other.
use Rattle.std.proofs.Common.{◌≡◌, ◌∙◌, ◌+◌, ◌<◌, ℕ, zero, suc, List, [], ◌∷◌, ◌++◌, length, get_or, map, take, refl, sym, ap, arith, append_assoc}
use Rattle.std.specs.Prelude.{Some, slice_get}
use Rattle.std.specs.List.{flat_map, join_with_byte}
use Rattle.std.proofs.lemmas.List.{append-nil}
use Rattle.aoe_base.specs.Texts.{between}

join_more : {X : Type 0} (c : ℕ) (f : X → List ℕ) (xs : List X) (i : ℕ) (d : X) → i < length xs
    → join_with_byte c (map f (take (suc i) xs)) ≡ join_with_byte c (map f (take i xs)) ++ (between c i ++ f (get_or xs i d))
join_more c f [] i d lt = absurd (omega (arith, lt))
join_more c f (x ∷ xs) zero d lt = refl
join_more c f (x ∷ []) (suc i) d lt = absurd (omega (arith, lt))
join_more c f (x ∷ y ∷ ys) (suc zero) d lt = refl
join_more c f (x ∷ y ∷ ys) (suc (suc k)) d lt =
    let h = join_more c f (y ∷ ys) (suc k) d (omega (arith, lt)) in
    let first : between c (suc k) ≡ c ∷ [] = grind arith in
    let next : between c (suc (suc k)) ≡ c ∷ [] = grind arith in
    ap (λ t. f x ++ (c ∷ t)) h ∙ sym
    (append_assoc (f x) (c ∷ join_with_byte c (map f (take (suc k) (y ∷ ys)))) (between c (suc k) ++ f (get_or (y ∷ ys) (suc k) d)))
    ∙ ap (λ b. (f x ++ (c ∷ join_with_byte c (map f (take (suc k) (y ∷ ys))))) ++ (b ++ f (get_or (y ∷ ys) (suc k) d))) (first ∙ sym next)

pub joined : {X : Type 0} (c : ℕ) (f : X → List ℕ) (xs : List X) (i : ℕ) (d : X) (start out mid new : List ℕ) → i < length xs
    → out ≡ start ++ join_with_byte c (map f (take i xs)) → mid ≡ out ++ between c i → new ≡ mid ++ f (get_or xs i d)
    → new ≡ start ++ join_with_byte c (map f (take (i + 1) xs))
joined c f xs i d start out mid new lt is between_is new_is =
    let one : suc i ≡ i + 1 = omega arith in
    let so_far : List ℕ = join_with_byte c (map f (take i xs)) in
    new_is
    ∙ ap (λ m. m ++ f (get_or xs i d)) (between_is ∙ ap (λ o. o ++ between c i) is)
    ∙ append_assoc (start ++ so_far) (between c i) (f (get_or xs i d))
    ∙ append_assoc start so_far (between c i ++ f (get_or xs i d))
    ∙ ap (λ t. start ++ t) (sym (join_more c f xs i d lt) ∙ ap (λ k. join_with_byte c (map f (take k xs))) one)

pub flat_more : {X : Type 0} (f : X → List ℕ) (xs : List X) (i : ℕ) (x : X) → slice_get xs i ≡ Some x
    → flat_map f (take (suc i) xs) ≡ flat_map f (take i xs) ++ f x
flat_more f [] i x e = absurd cc
flat_more f (y ∷ ys) zero x e = let same : y ≡ x = cc in append-nil (f y) ∙ ap f same
flat_more f (y ∷ ys) (suc i) x e = ap (λ t. f y ++ t) (flat_more f ys i x e) ∙ sym (append_assoc (f y) (flat_map f (take i ys)) (f x))
