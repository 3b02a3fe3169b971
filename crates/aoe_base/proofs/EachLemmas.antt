-- A list of texts, read one after the other.
use Rattle.std.proofs.Common.{◌≡◌, ◌∙◌, ◌+◌, ◌<◌, ℕ, List, [], ◌∷◌, ◌++◌, length, get_or, drop, Option, Some, None, refl, sym, ap, arith, append_assoc}
use Rattle.std.specs.Prelude.{option_and_then, option_map}
use Rattle.std.proofs.lemmas.List.{at_drop_more, drop_all, length-append, append-nil}
use Rattle.aoe_base.specs.Texts.{each}

-- n texts were read, and spelled these
pub record AreRead {T : Type 0} (read : List ℕ → Option T) (texts : List (List ℕ)) (n : ℕ) (xs : List T) : Type 0 where
  pub same : each read texts ≡ option_map (λ rest. xs ++ rest) (each read (drop n texts))
  pub as_many : length xs ≡ n

pub none_read : {T : Type 0} (read : List ℕ → Option T) (texts : List (List ℕ)) → AreRead read texts 0 []
none_read {T} read texts = record { same = go (each read texts); as_many = refl }
  where
    go : (o : Option (List T)) → o ≡ option_map (λ rest. [] ++ rest) o
    go None = refl
    go (Some xs) = refl

-- the next text
module _ {T : Type 0} (read : List ℕ → Option T) (texts : List (List ℕ)) (n : ℕ) (xs : List T) (h : AreRead read texts n xs) (text : List ℕ)
    (at : (n < length texts) × (text ≡ get_or texts n text)) where
  next_is : each read (drop n texts) ≡ option_and_then (λ x. option_map (λ rest. x ∷ rest) (each read (drop (n + 1) texts))) (read text)
  next_is =
      at_drop_more (each read) texts n text at.0
      ∙ ap (λ t. option_and_then (λ x. option_map (λ rest. x ∷ rest) (each read (drop (n + 1) texts))) (read t)) (sym at.1)

  -- it spells nothing
  pub none_at : None ≡ read text → None ≡ each read texts
  none_at e =
      ap (λ o. option_map (λ rest. xs ++ rest) (option_and_then (λ x. option_map (λ rest. x ∷ rest) (each read (drop (n + 1) texts))) o)) e
      ∙ ap (option_map (λ rest. xs ++ rest)) (sym next_is) ∙ sym h.same

  -- it spells this
  pub one_more : (x : T) → Some x ≡ read text → AreRead read texts (n + 1) (xs ++ x ∷ [])
  one_more x e = record {
    same = h.same
        ∙ ap (option_map (λ rest. xs ++ rest)) (next_is
        ∙ ap (λ o. option_and_then (λ x. option_map (λ rest. x ∷ rest) (each read (drop (n + 1) texts))) o) (sym e))
        ∙ go (each read (drop (n + 1) texts));
    as_many = length-append xs (x ∷ []) ∙ omega (arith, h.as_many);
  }
    where
      go : (o : Option (List T)) → option_map (λ rest. xs ++ rest) (option_map (λ rest. x ∷ rest) o) ≡ option_map (λ rest. (xs ++ x ∷ []) ++ rest) o
      go None = refl
      go (Some rest) = ap Some (sym (append_assoc xs (x ∷ []) rest))

-- all texts
pub each_read : {T : Type 0} (read : List ℕ → Option T) (texts : List (List ℕ)) (n : ℕ) (xs : List T) → AreRead read texts n xs → n ≡ length texts
    → each read texts ≡ Some xs
each_read read texts n xs h end =
    h.same ∙ ap (λ t. option_map (λ rest. xs ++ rest) (each read t)) (drop_all n texts (omega (arith, end))) ∙ ap Some (append-nil xs)
