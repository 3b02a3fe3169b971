-- A list of words, of which each is read.
use Rattle.std.proofs.Common.{◌≡◌, ◌∙◌, ◌+◌, ◌<◌, ℕ, Bool, true, false, cond, List, [], ◌∷◌, ◌++◌, length, map, get_or, Option, Some, None, refl, sym, arith}
use Rattle.std.proofs.lemmas.List.{get_or-map, length-map}
use Rattle.std.specs.Borrow.{Bor}
use Rattle.clap.specs.Words.{Text}
use Rattle.aoe_base.specs.Texts.{each}
use Rattle.aoe_args.specs.Tools.{is_list, listed}
use Rattle.aoe_base.proofs.EachLemmas.{AreRead, none_at, one_more}

module _ {T : Type 0} (read : Text → Option T) (words : List (Bor Text)) (n : ℕ) (xs : List T) (h : AreRead read (map (λ word. word.now) words) n xs)
    (default : Bor Text) (within : n < length words) (text : Text) (is : text ≡ (get_or words n default).now) where
  stands : (n < length (map (λ word. word.now) words)) × (text ≡ get_or (map (λ word. word.now) words) n text)
  stands = (omega (arith, within, length-map words (λ word. word.now)), is ∙ sym (get_or-map (λ word. word.now) words n default text within))

  -- the word spells nothing
  pub none_given : None ≡ read text → None ≡ each read (map (λ word. word.now) words)
  none_given e = none_at read (map (λ word. word.now) words) n xs h text stands e

  pub none_listed : None ≡ read text → None ≡ listed read (map (λ word. word.now) words)
  none_listed e = go (is_list (length (map (λ word. word.now) words))) (none_given e)
    where
      go : (b : Bool) → None ≡ each read (map (λ word. word.now) words) → None ≡ cond b (each read (map (λ word. word.now) words)) None
      go true none = none
      go false none = refl

  -- it spells this
  pub word_read : (x : T) → Some x ≡ read text → AreRead read (map (λ word. word.now) words) (n + 1) (xs ++ x ∷ [])
  word_read = one_more read (map (λ word. word.now) words) n xs h text stands
