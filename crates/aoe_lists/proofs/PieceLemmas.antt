-- Pieces of a list, of one length each.
use Rattle.std.proofs.Common.{◌≡◌, ◌≤◌, ℕ, zero, suc, List, ◌∷◌, take, drop, refl, ap, arith}
use Rattle.std.specs.Simd.{first_chunks}

pub take-first_chunks : {X : Type 0} (n k count : ℕ) (xs : List X) → count ≤ k → take count (first_chunks n k xs) ≡ first_chunks n count xs
take-first_chunks n k zero xs h = refl
take-first_chunks n zero (suc count) xs h = absurd (omega arith)
take-first_chunks n (suc k) (suc count) xs h = ap (λ (l : List (List _)). take n xs ∷ l) (take-first_chunks n k count (drop n xs) (omega arith))
