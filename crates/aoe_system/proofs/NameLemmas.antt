-- The parts of a name, added one after the other.
use Rattle.std.proofs.Common.{◌≡◌, ◌+◌, ◌<◌, ℕ, List, [], ◌∷◌, ◌++◌, get_or, length, take, sym, ap, arith}
use Rattle.std.proofs.lemmas.List.{append-nil, append_assoc, take_all, take_more}
use Rattle.std.proofs.lemmas.Grind.{flat_map-append}
use Rattle.std.specs.List.{flat_map}

module _ (f : List ℕ → List ℕ) (texts : List (List ℕ)) (n : ℕ) where
  pub one_more : (part before all : List ℕ) → (n < length texts) × (part ≡ get_or texts n part) → all ≡ before ++ flat_map f (take n texts)
      → all ++ f part ≡ before ++ flat_map f (take (n + 1) texts)
  one_more part before all at so_far =
      rw (take_more texts n part at.0, flat_map-append f (take n texts) (get_or texts n part ∷ []), so_far)
      (rw (sym at.1, append-nil (f part)) (append_assoc before (flat_map f (take n texts)) (f part)))

  pub all_parts : n ≡ length texts → flat_map f (take n texts) ≡ flat_map f texts
  all_parts e = ap (flat_map f) (take_all n texts (omega (arith, e)))
