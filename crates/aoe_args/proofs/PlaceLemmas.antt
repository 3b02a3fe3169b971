-- A list, up to the first element that passes a test.
use Rattle.std.proofs.Common.{◌≡◌, ◌∙◌, ◌+◌, ◌==◌, ◌||◌, ℕ, Bool, true, false, cond, not, List, [], ◌∷◌, length, drop, take, Option, Some, None, nat_lt, refl, sym, ap, arith}
use Rattle.std.specs.Prelude.{option_and_then, option_map, position}
use Rattle.std.specs.List.{list_any, position_or_len, after_first, before_first}
use Rattle.std.specs.Option.{option_map_or}
use Rattle.std.proofs.lemmas.List.{take_all}
use Rattle.std.proofs.lemmas.Bool.Decides.{nat_tests}
use Rattle.clap.specs.Lexer.{strip_byte, long_of_rest}
use Rattle.aoe_args.specs.Places.{option_name}
use Rattle.aoe_args.specs.Words.{attached}

-- an element passes where the first that does stands within the list
pub passes_within : (p : ℕ → Bool) (xs : List ℕ) → list_any p xs ≡ nat_lt (position_or_len p xs) (length xs)
passes_within p [] = refl
passes_within p (x ∷ xs) = go (p x) (passes_within p xs)
  where
    go : (b : Bool) → list_any p xs ≡ nat_lt (position_or_len p xs) (length xs)
        → (b || list_any p xs) ≡ nat_lt (cond (not b) (1 + position_or_len p xs) 0) (length (x ∷ xs))
    go true e = grind (arith, nat_tests)
    go false e = e ∙ grind (arith, nat_tests)

-- what stands behind the first `=` of an option's text
pub value_behind : (text : List ℕ) → option_and_then (λ p. p.1) (long_of_rest text) ≡ option_map (λ i. drop (i + 1) text) (position (λ c. c == 61) text)
value_behind [] = refl
value_behind (x ∷ xs) =
    go (list_any (λ c. c == 61) (x ∷ xs)) (nat_lt (position_or_len (λ c. c == 61) (x ∷ xs)) (length (x ∷ xs))) (passes_within (λ c. c == 61) (x ∷ xs))
  where
    go : (b t : Bool) → b ≡ t → cond b (Some (after_first (λ c. c == 61) (x ∷ xs))) None
        ≡ option_map (λ i. drop (i + 1) (x ∷ xs)) (cond t (Some (position_or_len (λ c. c == 61) (x ∷ xs))) None)
    go true true e = refl
    go true false e = cc
    go false true e = cc
    go false false e = refl

-- the same of the word
pub attached_behind : (word text : List ℕ) (place : Option ℕ) → Some text ≡ option_and_then (strip_byte 45) (strip_byte 45 word)
    → place ≡ position (λ c. c == 61) text → option_map (λ i. drop (i + 1) text) place ≡ attached word
attached_behind word text place front is =
    ap (option_map (λ i. drop (i + 1) text)) is ∙ sym (value_behind text) ∙ ap (λ o. option_and_then (λ p. p.1) (option_and_then long_of_rest o)) front

-- what stands before the first `=` of an option's text, or all of it
before_place : (text : List ℕ) → before_first (λ c. c == 61) text ≡ option_map_or (λ i. take i text) (position (λ c. c == 61) text) text
before_place text = go (nat_lt (position_or_len (λ c. c == 61) text) (length text)) refl
  where
    go : (b : Bool) → nat_lt (position_or_len (λ c. c == 61) text) (length text) ≡ b → before_first (λ c. c == 61) text
        ≡ option_map_or (λ i. take i text) (cond b (Some (position_or_len (λ c. c == 61) text)) None) text
    go true e = refl
    go false e = take_all _ text (grind (arith, nat_tests))

name_front : (text : List ℕ) → option_map_or (λ p. p.0) (long_of_rest text) [] ≡ before_first (λ c. c == 61) text
name_front [] = refl
name_front (x ∷ xs) = refl

-- the name of an option, and of what is none
name_before : (word text : List ℕ) (place : Option ℕ) → Some text ≡ option_and_then (strip_byte 45) (strip_byte 45 word)
    → place ≡ position (λ c. c == 61) text → option_map_or (λ i. take i text) place text ≡ option_name word
unfolding option_name
name_before word text place front is =
    ap (λ o. option_map_or (λ i. take i text) o text) is ∙ sym (before_place text) ∙ sym (name_front text)
    ∙ ap (λ o. option_map_or (λ p. p.0) (option_and_then long_of_rest o) []) front

pub name_none : (word : List ℕ) → None ≡ option_and_then (strip_byte 45) (strip_byte 45 word) → [] ≡ option_name word
unfolding option_name
name_none word none = ap (λ o. option_map_or (λ p. p.0) (option_and_then long_of_rest o) []) none

pub name_at : (word text : List ℕ) (i : ℕ) → Some text ≡ option_and_then (strip_byte 45) (strip_byte 45 word)
    → Some i ≡ position (λ c. c == 61) text → take i text ≡ option_name word
name_at word text i front is = name_before word text (Some i) front is

pub name_whole : (word text : List ℕ) → Some text ≡ option_and_then (strip_byte 45) (strip_byte 45 word)
    → None ≡ position (λ c. c == 61) text → text ≡ option_name word
name_whole word text front is = name_before word text None front is
