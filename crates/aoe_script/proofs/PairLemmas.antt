-- Digits that are read two by two.
use Rattle.std.proofs.Common.{◌≡◌, ◌∙◌, ◌-◌, ◌<◌, ◌≤◌, ◌==◌, ℕ, true, false, List, [], ◌∷◌, ◌++◌, length, get_or, take, drop, Option, Some, None, refl, sym, ap, arith, append_assoc}
use Rattle.std.specs.Prelude.{option_and_then, option_map}
use Rattle.std.proofs.lemmas.List.{append-nil, take_all}
use Rattle.aoe_script.specs.Classes.{pair, pairs}

-- these bytes were read, and this is left
pub record ArePaired (text left bytes : List ℕ) : Type 0 where
  pub so_far : pairs text ≡ option_map (λ rest. bytes ++ rest) (pairs left)

pub none_paired : (text : List ℕ) → ArePaired text text []
none_paired text = record { so_far = go (pairs text) }
  where
    go : (o : Option (List ℕ)) → o ≡ option_map (λ rest. [] ++ rest) o
    go None = refl
    go (Some bytes) = refl

pub no_pair : (text left bytes : List ℕ) → ArePaired text left bytes → 2 ≤ length left → None ≡ pair (get_or left 0 0) (get_or left 1 0) → None ≡ pairs text
no_pair text [] bytes h long e = absurd (omega (arith, long))
no_pair text (high ∷ []) bytes h long e = absurd (omega (arith, long))
no_pair text (high ∷ low ∷ more) bytes h long e =
    ap (λ o. option_map (λ rest. bytes ++ rest) (option_and_then (λ byte. option_map (λ rest. byte ∷ rest) (pairs more)) o)) e ∙ sym h.so_far

pub one_pair : (text left bytes : List ℕ) (byte : ℕ) → ArePaired text left bytes → 2 ≤ length left → Some byte ≡ pair (get_or left 0 0) (get_or left 1 0)
    → ArePaired text (take (length left - 2) (drop 2 left)) (bytes ++ byte ∷ [])
one_pair text [] bytes byte h long e = absurd (omega (arith, long))
one_pair text (high ∷ []) bytes byte h long e = absurd (omega (arith, long))
one_pair text (high ∷ low ∷ more) bytes byte h long e = record {
  so_far =
      h.so_far ∙ ap (λ o. option_map (λ rest. bytes ++ rest) (option_and_then (λ byte. option_map (λ rest. byte ∷ rest) (pairs more)) o)) (sym e)
      ∙ go (pairs more) ∙ ap (λ t. option_map (λ rest. (bytes ++ byte ∷ []) ++ rest) (pairs t))
      (sym (take_all (length (high ∷ low ∷ more) - 2) more (omega arith)));
}
  where
    go : (o : Option (List ℕ)) → option_map (λ rest. bytes ++ rest) (option_map (λ rest. byte ∷ rest) o) ≡ option_map (λ rest. (bytes ++ byte ∷ []) ++ rest) o
    go None = refl
    go (Some rest) = ap Some (sym (append_assoc bytes (byte ∷ []) rest))

-- at the end nothing is left, or one digit
pub all_paired : (text left bytes : List ℕ) → ArePaired text left bytes → (length left == 0) ≡ true → Some bytes ≡ pairs text
all_paired text [] bytes h none = sym (h.so_far ∙ ap Some (append-nil bytes))
all_paired text (digit ∷ left) bytes h none = absurd (grind arith)

pub odd_none : (text left bytes : List ℕ) → ArePaired text left bytes → length left < 2 → (length left == 0) ≡ false → None ≡ pairs text
odd_none text [] bytes h few some = absurd cc
odd_none text (high ∷ []) bytes h few some = sym h.so_far
odd_none text (high ∷ low ∷ more) bytes h few some = absurd (omega (arith, few))
