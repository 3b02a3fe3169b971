-- The first part of a list that is cut, and what stands behind it.
use Rattle.std.proofs.Common.{◌≡◌, ◌∙◌, ◌+◌, ◌≤◌, ℕ, suc, Bool, true, false, cond, List, [], ◌∷◌, length, take, drop, refl, arith, Some, None, nat_lt}
use Rattle.std.specs.Prelude.{position, unwrap_or}
use Rattle.std.proofs.lemmas.Bool.Decides.{nat_tests}
use Rattle.std.specs.List.{slice_split, position_or_len}

-- the first part ends before the first element that passes, and what begins there has the same other parts
pub record IsCut (p : ℕ → Bool) (xs : List ℕ) : Type 0 where
  pub parts : List (List ℕ)
  pub whole : slice_split p xs ≡ take (position_or_len p xs) xs ∷ parts
  pub behind : slice_split p (drop (position_or_len p xs) xs) ≡ [] ∷ parts

pub cut : (p : ℕ → Bool) (xs : List ℕ) → IsCut p xs
cut p [] = record { parts = []; whole = refl; behind = refl }
cut p (x ∷ xs) = go (cut p xs) (p x) refl
  where
    go : IsCut p xs → (b : Bool) → p x ≡ b → IsCut p (x ∷ xs)
    go c true is = record { parts = slice_split p xs; whole = rw is refl; behind = rw (is, is) refl }
    go c false is =
        let one : 1 + position_or_len p xs ≡ suc (position_or_len p xs) = omega arith in
        record {
          parts = c.parts;
          whole = rw (is, one, c.whole) refl;
          behind = rw (is, one) c.behind;
        }

pub position_or_len-le : (p : ℕ → Bool) (xs : List ℕ) → position_or_len p xs ≤ length xs
position_or_len-le p [] = omega arith
position_or_len-le p (x ∷ xs) = go (position_or_len-le p xs) (p x) refl
  where
    go : position_or_len p xs ≤ length xs → (b : Bool) → p x ≡ b → position_or_len p (x ∷ xs) ≤ length (x ∷ xs)
    go h true is = rw is (omega arith)
    go h false is = rw is (omega (arith, h))

-- the place of the first, or the end where there is none
pub first_or_end : (p : ℕ → Bool) (xs : List ℕ) (i : ℕ) → i ≡ unwrap_or (position p xs) (length xs) → (i ≡ position_or_len p xs) × (i ≤ length xs)
first_or_end p xs i e = let at = e ∙ go (nat_lt (position_or_len p xs) (length xs)) refl in (at, omega (arith, at, position_or_len-le p xs))
  where
    go : (b : Bool) → nat_lt (position_or_len p xs) (length xs) ≡ b → unwrap_or (cond b (Some (position_or_len p xs)) None) (length xs) ≡ position_or_len p xs
    go true is = refl
    go false is = let most = position_or_len-le p xs in grind (arith, nat_tests)
