-- Frames that grow, and that are written over in their place.
use Rattle.std.proofs.Common.{◌≡◌, ◌≤◌, ◌++◌, ◌-◌, take, drop, ℕ, List, replicate, length, sym, ap, ◌∙◌, arith, length-append, length-drop}
use Rattle.std.specs.List.{refill}
use Rattle.std.proofs.lemmas.List.{take-replicate, take_at, take_all}
use Rattle.aoe_frame.specs.Header.{padded, stretched}

-- zeros that fill a frame up to n bytes
zeros-up : (f g zeros : List ℕ) (n m : ℕ) → n ≤ 9018 → m ≡ length f → g ≡ f ++ zeros → zeros ≡ take (n - m) (replicate 9018 0)
    → g ≡ f ++ replicate (n - length f) 0
zeros-up f g zeros n m small m_is g_is zeros_are =
    g_is ∙ ap (λ (z : List ℕ). f ++ z) (zeros_are ∙ take-replicate (n - m) 9018 0 (omega arith) ∙ ap (λ (k : ℕ). replicate (n - k) 0) m_is)

pub padded-by : (f g zeros : List ℕ) (m : ℕ) → m ≡ length f → g ≡ f ++ zeros → zeros ≡ take (60 - m) (replicate 9018 0) → g ≡ padded f
padded-by f g zeros m m_is g_is zeros_are = zeros-up f g zeros 60 m (omega arith) m_is g_is zeros_are

pub stretched-by : (f g zeros : List ℕ) (n m : ℕ) → n ≤ 9018 → length f ≤ n → m ≡ length f → g ≡ f ++ zeros → zeros ≡ take (n - m) (replicate 9018 0)
    → g ≡ stretched n f
stretched-by f g zeros n m small short m_is g_is zeros_are =
    zeros-up f g zeros n m small m_is g_is zeros_are ∙ ap (λ (l : List ℕ). l ++ replicate (n - length f) 0) (sym (take_all n f short))

-- a list whose front was written through a slice
pub overwritten : (xs vs ys bytes : List ℕ) → vs ≡ xs → ys ≡ bytes ++ drop (length bytes) vs → length bytes ≤ length xs
    → refill (length xs) xs ys ≡ bytes ++ drop (length bytes) xs
overwritten xs vs ys bytes same written short =
    let l : List ℕ = bytes ++ drop (length bytes) xs in
    let size : length l ≡ length xs = omega (arith, length-append bytes (drop (length bytes) xs), length-drop (length bytes) xs) in
    let is : ys ≡ l = written ∙ ap (λ (v : List ℕ). bytes ++ drop (length bytes) v) same in
    ap (refill (length xs) xs) is ∙ take_at l (drop (length l) xs) (length xs) size
