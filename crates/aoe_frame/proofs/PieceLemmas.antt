-- Pieces of a list, element by element.
use Rattle.std.proofs.Common.{◌≡◌, ℕ, suc, ◌^◌, ◌<◌, inl, inr, List, [], ◌∷◌, ◌++◌, length, get_or, drop, take, refl, ap, arith}
use Rattle.std.specs.Prelude.{All}
use Rattle.std.proofs.Math.Seq.{drop-cons}
use Rattle.std.proofs.lemmas.Bool.{cases_lt}
use Rattle.std.proofs.lemmas.List.{get_or_past}
use Rattle.std.proofs.lemmas.List.Elements.{All-get_or, All-take, All-drop}

-- twelve elements behind a list, all at once and piece by piece
pub behind : (l : List ℕ) (a b c d e f g h i j k m : ℕ) → l ++ (a ∷ b ∷ c ∷ d ∷ e ∷ f ∷ g ∷ h ∷ i ∷ j ∷ k ∷ m ∷ [])
    ≡ l ++ (a ∷ b ∷ []) ++ (c ∷ d ∷ []) ++ (e ∷ f ∷ []) ++ (g ∷ h ∷ []) ++ (i ∷ j ∷ k ∷ m ∷ [])
behind [] a b c d e f g h i j k m = refl
behind (x ∷ l) a b c d e f g h i j k m = ap (λ (l : List ℕ). x ∷ l) (behind l a b c d e f g h i j k m)

-- two elements behind k, and four
pub two-at : (f : List ℕ) (k : ℕ) → suc k < length f → take 2 (drop k f) ≡ get_or f k 0 ∷ get_or f (suc k) 0 ∷ []
two-at f k inside = let before : k < length f = omega arith in rw (drop-cons f k 0 before, drop-cons f (suc k) 0 inside) refl

pub four-at : (f : List ℕ) (k : ℕ) → suc (suc (suc k)) < length f → take 4 (drop k f)
    ≡ get_or f k 0 ∷ get_or f (suc k) 0 ∷ get_or f (suc (suc k)) 0 ∷ get_or f (suc (suc (suc k))) 0 ∷ []
four-at f k inside =
    let zeroth : k < length f = omega arith in
    let first : suc k < length f = omega arith in
    let second : suc (suc k) < length f = omega arith in
    rw (drop-cons f k 0 zeroth, drop-cons f (suc k) 0 first, drop-cons f (suc (suc k)) 0 second, drop-cons f (suc (suc (suc k))) 0 inside) refl

-- each element is a byte where all are
pub each-small : (f : List ℕ) → All (λ b. b < 2 ^ 8) f → (i : ℕ) → get_or f i 0 < 256
each-small f small i = elim (cases_lt i (length f)) [
  | inl inside ↦ All-get_or (λ b. b < 2 ^ 8) f i 0 inside small
  | inr past ↦ rw (get_or_past f i 0 past) (omega arith)
]

-- each element of a part of a list is a byte where all of the list are
pub part-small : (f : List ℕ) (n k : ℕ) → All (λ b. b < 2 ^ 8) f → (i : ℕ) → get_or (take n (drop k f)) i 0 < 256
part-small f n k small i = each-small (take n (drop k f)) (All-take (λ b. b < 2 ^ 8) n (drop k f) (All-drop (λ b. b < 2 ^ 8) k f small)) i
