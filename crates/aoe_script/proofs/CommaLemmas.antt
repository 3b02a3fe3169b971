-- A text of which a loop reads the parts between its commas.
use Rattle.std.proofs.Common.{◌≡◌, ◌≤◌, ◌<◌, ◌==◌, ◌++◌, ◌∷◌, [], ℕ, Bool, false, List, length, get_or, Option, Some, None, Bor, ap}
use Rattle.std.proofs.lemmas.Iterator.{YieldsList}
use Rattle.std.proofs.lemmas.Iterator.Consumers.{YieldsList-turn, YieldsList-end}
use Rattle.std.proofs.lemmas.Iterator.Splits.{YieldsList-from_slice_split}
use Rattle.std.proofs.lemmas.List.{length_push}
use Rattle.std.specs.Fn.{CalledAt}
use Rattle.std.specs.Iterator.{Yields}
use Rattle.std.specs.List.{slice_split}
use Rattle.std.specs.Slice.Iter.{split_callee, split_done, split_rest, split_steps}
use Rattle.std.specs.declared.slice.Split.{Split}
use denote.Param.Members.{Mut}
use Rattle.aoe_base.specs.Texts.{each}
use Rattle.aoe_script.specs.Classes.{at_most}
use Rattle.aoe_script.specs.Words.{Text}
use Rattle.aoe_base.proofs.EachLemmas.{AreRead, none_at, one_more}
use Rattle.aoe_script.proofs.PartLemmas.{all_read, one_too_many}

abbrev pub commas : Text → List Text
commas = slice_split (λ c. c == 44)

-- the parts that were taken have spelled xs, and the iterator takes the next
module _ {T F : Type 0} (read : Text → Option T) (most : ℕ) (text : Text) {g : Mut F (Bor ℕ × Unit {0}) Bool} {f : F} (s t u : Split ℕ F)
    (r : Option (Bor Text))
    (rest : split_rest s ≡ text) (more : split_done s ≡ false) (closure : split_callee s ≡ f)
    (tests : (x : ℕ) (b : Bool) (q : F) → CalledAt g f x b q → (q ≡ f) × (b ≡ (x == 44)))
    (taken : List (Bor Text)) (by : Yields (split_steps g) s taken t) (xs : List T) (h : AreRead read (commas text) (length taken) xs)
    (step : split_steps g t r u) where
  road : YieldsList (split_steps g) (λ x. x.now) s (commas text)
  road = YieldsList-from_slice_split g (λ c. c == 44) text rest more closure tests

  module _ (part : Bor Text) (is : r ≡ Some part) where
    next_part : (length taken < length (commas text)) × (part.now ≡ get_or (commas text) (length taken) part.now)
    next_part = YieldsList-turn road taken t by r u part is step

    -- it spells nothing
    pub nothing_read : None ≡ read part.now → None ≡ at_most most (each read (commas text))
    nothing_read e = ap (at_most most) (none_at read (commas text) (length taken) xs h part.now next_part e)

    -- it spells one more than there may be
    pub too_many_read : (x : T) → Some x ≡ read part.now → length xs ≡ most → None ≡ at_most most (each read (commas text))
    too_many_read x e full = one_too_many read most (commas text) (length taken) xs h part.now next_part x e full

    -- it spells this
    pub part_read : (x : T) → Some x ≡ read part.now → AreRead read (commas text) (length (taken ++ part ∷ [])) (xs ++ x ∷ [])
    part_read x e = rw (length_push taken part) (one_more read (commas text) (length taken) xs h part.now next_part x e)

  -- there is none
  pub all_parts_read : r ≡ None → length xs ≤ most → Some xs ≡ at_most most (each read (commas text))
  all_parts_read is few = all_read read most (commas text) (length taken) xs h (YieldsList-end road taken t by r u is step).1 few
