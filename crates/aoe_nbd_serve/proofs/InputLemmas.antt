-- What was read, as it stands in the room for it.
use Rattle.std.proofs.Common.{ℕ, ◌≡◌, ◌+◌, ◌-◌, ◌≤◌, List, [], ◌++◌, append-nil, length, length-append, length-drop, drop, take, subst, sym, ap, ◌∙◌, arith}
use Rattle.std.specs.Prelude.{slice_range}
use Rattle.std.proofs.lemmas.List.{drop-append-le, length-take-le, take-append-le}
use Rattle.std.proofs.lemmas.Slice.{between_is}
use Rattle.std.proofs.Math.Seq.{take-append-add}

range-behind : (front rest : List ℕ) (b n : ℕ) → b ≤ length front → slice_range (front ++ rest) b (length front + n) ≡ drop b front ++ take n rest
range-behind front rest b n within =
    between_is (front ++ rest) b (length front + n) ∙ ap (drop b) (take-append-add front rest n) ∙ drop-append-le b front (take n rest) within

-- so many bytes more stand behind those before
pub read-more : (xs out rest : List ℕ) (b e n : ℕ) → b ≤ e → e ≤ length xs → n ≤ length out
    → slice_range (take e xs ++ (out ++ rest)) b (e + n) ≡ slice_range xs b e ++ take n out
read-more xs out rest b e n begins ends few =
    let len : length (take e xs) ≡ e = length-take-le e xs ends in
    let P : ℕ → Type 0 = λ k. slice_range (take e xs ++ (out ++ rest)) b (k + n) ≡ drop b (take e xs) ++ take n (out ++ rest) in
    subst P len (range-behind (take e xs) (out ++ rest) b n (omega (arith, len, begins)))
    ∙ ap (λ (x : List ℕ). x ++ take n (out ++ rest)) (sym (between_is xs b e))
    ∙ ap (λ (x : List ℕ). slice_range xs b e ++ x) (take-append-le n out rest few)

-- and where none came, the same
pub read-none : (xs out rest : List ℕ) (b e : ℕ) → b ≤ e → e ≤ length xs → slice_range (take e xs ++ (out ++ rest)) b e ≡ slice_range xs b e
read-none xs out rest b e begins ends =
    let P : ℕ → Type 0 = λ k. slice_range (take e xs ++ (out ++ rest)) b k ≡ slice_range xs b e ++ [] in
    subst P (omega arith) (read-more xs out rest b e 0 begins ends (omega arith)) ∙ append-nil (slice_range xs b e)

-- the room stays as long as it is
pub room-stays : (xs out : List ℕ) (e : ℕ) → e ≤ length xs → length out ≡ length xs - e → length (take e xs ++ (out ++ drop (length xs - e) (drop e xs))) ≡ length xs
room-stays xs out e ends long =
    let rest = drop (length xs - e) (drop e xs) in
    omega (arith, ends, long, length-append (take e xs) (out ++ rest), length-append out rest, length-take-le e xs ends, length-drop (length xs - e) (drop e xs), length-drop e xs)
