-- A list whose parts are read one after the other, with a bound.
use Rattle.std.proofs.Common.{◌≡◌, ◌∙◌, ◌+◌, ◌<◌, ◌≤◌, ℕ, true, false, List, [], ◌∷◌, ◌++◌, length, get_or, drop, Option, Some, None, nat_le, refl, sym, ap, arith}
use Rattle.std.specs.Prelude.{option_map}
use Rattle.std.proofs.lemmas.List.{length-append}
use Rattle.std.proofs.lemmas.Bool.Decides.{nat_tests}
use Rattle.aoe_base.specs.Texts.{each}
use Rattle.aoe_base.proofs.EachLemmas.{AreRead, each_read, one_more}
use Rattle.aoe_script.specs.Classes.{at_most}
use Rattle.aoe_script.specs.Words.{Text}

-- more than there may be
too_many : {T : Type 0} (read : Text → Option T) (most : ℕ) (texts : List Text) (n : ℕ) (xs : List T) → AreRead read texts n xs → most < n
    → None ≡ at_most most (each read texts)
too_many {T} read most texts n xs h lt = go (each read (drop n texts)) ∙ sym (ap (at_most most) h.same)
  where
    go : (o : Option (List T)) → None ≡ at_most most (option_map (λ rest. xs ++ rest) o)
    go None = refl
    go (Some rest) =
        let long : most < length (xs ++ rest) = omega (arith, lt, length-append xs rest, h.as_many) in
        let test : nat_le (length (xs ++ rest)) most ≡ false = grind (arith, nat_tests) in
        rw test refl

pub one_too_many : {T : Type 0} (read : Text → Option T) (most : ℕ) (texts : List Text) (n : ℕ) (xs : List T) (h : AreRead read texts n xs) (part : Text)
    → (n < length texts) × (part ≡ get_or texts n part) → (x : T) → Some x ≡ read part → length xs ≡ most → None ≡ at_most most (each read texts)
one_too_many read most texts n xs h part at x e full =
    too_many read most texts (n + 1) (xs ++ x ∷ []) (one_more read texts n xs h part at x e) (omega (arith, full, h.as_many))

-- all parts
pub all_read : {T : Type 0} (read : Text → Option T) (most : ℕ) (texts : List Text) (n : ℕ) (xs : List T) → AreRead read texts n xs → n ≡ length texts
    → length xs ≤ most
    → Some xs ≡ at_most most (each read texts)
all_read read most texts n xs h end few =
    let test : nat_le (length xs) most ≡ true = grind (arith, nat_tests) in
    rw (each_read read texts n xs h end, test) refl
