-- The entries of a history, which its list has the latest first.
use Rattle.std.proofs.Common.{◌≡◌, ◌∙◌, ◌+◌, ◌-◌, ◌<◌, ℕ, List, [], ◌∷◌, ◌++◌, drop, length, length-append, get_or, reverse, sym, ap, refl, arith}
use Rattle.std.specs.Prelude.{Some, slice_get}
use Rattle.std.proofs.lemmas.List.{drop_more, get_or-reverse, length-reverse}
use Rattle.std.proofs.lemmas.Option.{get_or_from_slice_get, slice_get_within}

pub entry-within : {X : Type 0} (xs : List X) (i : ℕ) (x : X) → slice_get (reverse xs) i ≡ Some x → i < length xs
entry-within xs i x is = rw (sym (length-reverse xs)) (slice_get_within (reverse xs) i x is)

-- the first i + 1 entries are those before the one with i before it, and that one
pub entry-at : {X : Type 0} (xs : List X) (i : ℕ) (x : X) → slice_get (reverse xs) i ≡ Some x → drop (length xs - (i + 1)) xs ≡ x ∷ drop (length xs - i) xs
entry-at xs i x is =
    let within = entry-within xs i x is in
    let back : ℕ = length xs - (i + 1) in
    let same : length xs - 1 - i ≡ back = omega arith in
    let there : get_or xs back x ≡ x = ap (λ k. get_or xs k x) (sym same) ∙ sym (get_or-reverse xs i x within) ∙ get_or_from_slice_get (reverse xs) i x x is in
    let behind : back + 1 ≡ length xs - i = omega (arith, within) in
    drop_more xs back x (omega (arith, within)) ∙ ap (λ y. y ∷ drop (back + 1) xs) there ∙ ap (λ k. x ∷ drop k xs) behind

drop-front : {X : Type 0} (new xs : List X) → drop (length new) (new ++ xs) ≡ xs
drop-front [] xs = refl
drop-front (x ∷ new) xs = drop-front new xs

-- what stood before more came
pub drop-more : {X : Type 0} (new xs ys : List X) → ys ≡ new ++ xs → drop (length ys - length xs) ys ≡ xs
drop-more new xs ys is =
    let count : length ys ≡ length new + length xs = ap length is ∙ length-append new xs in
    let front : length ys - length xs ≡ length new = omega (arith, count) in
    ap (λ k. drop k ys) front ∙ ap (drop (length new)) is ∙ drop-front new xs

-- the entry with so many behind it
pub entry-back : {X : Type 0} (xs : List X) (back count : ℕ) (x : X) → count ≡ length xs → back < length xs → slice_get (reverse xs) (count - 1 - back) ≡ Some x
    → drop back xs ≡ x ∷ drop (back + 1) xs
entry-back xs back count x all within is =
    let i : ℕ = count - 1 - back in
    let here : length xs - (i + 1) ≡ back = omega (arith, all, within) in
    let behind : length xs - i ≡ back + 1 = omega (arith, all, within) in
    ap (λ k. drop k xs) (sym here) ∙ entry-at xs i x is ∙ ap (λ k. x ∷ drop k xs) behind
