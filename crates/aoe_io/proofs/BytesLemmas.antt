-- Bytes that are given and taken one piece after the other.
use Rattle.std.proofs.Common.{◌≡◌, ℕ, List, [], ◌∷◌, ◌++◌, ◌*◌, ◌/◌, ◌%◌, ◌<◌, length, take, drop, get_or, ◌-◌, ◌+◌, ◌≤◌, subst, Option, Some, None, refl, sym, ap, ◌∙◌, append_assoc, append-nil, arith, length-append}
use Rattle.std.specs.Option.{option_map}
use Rattle.std.proofs.Math.Seq.{take-add, take-append-add}
use borrow.Rule.Slice.PartMut.{put_mid, mid_of, post_of, same_len_mid}
use Rattle.std.proofs.lemmas.List.{length-take, length-drop, take_rest, take-append-le, take-append-drop, drop-drop}
use Rattle.std.specs.Int.{w16, to_be_bytes}
use Rattle.aoe_io.specs.Bytes.{Gave, GaveSome, Took, TookSome}

pub Gave-nothing : (a : Option (List ℕ)) → Gave a a []
Gave-nothing None = refl
Gave-nothing (Some x) = refl

pub Gave-then : (a b c : Option (List ℕ)) (p q : List ℕ) → Gave a b p → Gave b c q → Gave a c (p ++ q)
Gave-then a b None p q e f = e ∙ ap (option_map (λ rest. p ++ rest)) f
Gave-then a b (Some r) p q e f = e ∙ ap (option_map (λ rest. p ++ rest)) f ∙ ap Some (sym (append_assoc p q r))

pub GaveSome-then : (a b c : Option (List ℕ)) (p : List ℕ) → Gave a b p → GaveSome b c → GaveSome a c
GaveSome-then a b c p e some = (p ++ some.0, Gave-then a b c p some.0 e some.1)

pub Took-nothing : (a : Option (List ℕ)) → Took a a []
Took-nothing None = refl
Took-nothing (Some x) = ap Some (sym (append-nil x))

pub Took-then : (a b c : Option (List ℕ)) (p q : List ℕ) → Took a b p → Took b c q → Took a c (p ++ q)
Took-then None b c p q e f = f ∙ ap (option_map (λ held. held ++ q)) e
Took-then (Some r) b c p q e f = f ∙ ap (option_map (λ held. held ++ q)) e ∙ ap Some (append_assoc r p q)

-- a sink that took all of p and a part of q took a part of both
pub TookSome-then : (a b c : Option (List ℕ)) (p q : List ℕ) → Took a b p → TookSome b c q → TookSome a c (p ++ q)
TookSome-then a b c p q all some =
    let P : List ℕ → Type 0 = λ xs. Took a c xs in
    (length p + some.0, omega (arith, some.1, length-append p q), subst P (sym (take-append-add p q some.0)) (Took-then a b c p (take some.0 q) all some.2))

-- a sink that took a part of p took a part of p and q
pub TookSome-front : (a b : Option (List ℕ)) (p q : List ℕ) → TookSome a b p → TookSome a b (p ++ q)
TookSome-front a b p q some =
    let P : List ℕ → Type 0 = λ xs. Took a b xs in
    (some.0, omega (arith, some.1, length-append p q), subst P (sym (take-append-le some.0 p q (omega (arith, some.1)))) some.2)

-- a count of a rest of a list is within the list
pub count-within : (xs : List ℕ) (d n : ℕ) → d ≤ length xs → n ≤ length (take (length xs - d) (drop d xs)) → d + n ≤ length xs
count-within xs d n inside within = let shorter : n ≤ length (drop d xs) = rw (take_rest xs d) at within in omega (arith, length-drop d xs)

-- a sink that took a front of xs took a further piece of the rest
pub Took-further : (a b c : Option (List ℕ)) (xs : List ℕ) (d n : ℕ) → Took a b (take d xs) → Took b c (take n (take (length xs - d) (drop d xs)))
    → Took a c (take (d + n) xs)
Took-further a b c xs d n before piece =
    let P : List ℕ → Type 0 = λ ys. Took b c (take n ys) in
    let Q : List ℕ → Type 0 = λ ys. Took a c ys in
    subst Q (sym (take-add d n xs)) (Took-then a b c (take d xs) (take n (drop d xs)) before (subst P (take_rest xs d) piece))

-- a list of which the middle was overwritten has the new bytes behind the front that stayed
filled : (xs ys : List ℕ) (d k n : ℕ) → d ≤ length xs → n ≤ length ys → take (d + n) (put_mid d k xs ys) ≡ take d xs ++ take n ys
filled xs ys d k n inside within =
    let front : length (take d xs) ≡ d = omega (arith, length-take d xs) in
    let P : ℕ → Type 0 = λ m. take (m + n) (put_mid d k xs ys) ≡ take d xs ++ take n (ys ++ post_of d k xs) in
    subst P front (take-append-add (take d xs) (ys ++ post_of d k xs) n) ∙ ap (λ (t : List ℕ). take d xs ++ t) (take-append-le n ys (post_of d k xs) within)

-- a source that filled the front of a buffer gave a further piece behind it
pub Gave-further : (a b c : Option (List ℕ)) (xs ys : List ℕ) (d k n : ℕ) → d ≤ length xs → n ≤ length ys → Gave a b (take d xs) → Gave b c (take n ys)
    → Gave a c (take (d + n) (put_mid d k xs ys))
Gave-further a b c xs ys d k n inside within before piece =
    let P : List ℕ → Type 0 = λ zs. Gave a c zs in
    subst P (sym (filled xs ys d k n inside within)) (Gave-then a b c (take d xs) (take n ys) before piece)

-- the count of a piece of the middle is within the list
pub count-within-middle : (xs ys : List ℕ) (d n : ℕ) → d ≤ length xs → length ys ≡ length (mid_of d (length xs - d) xs) → n ≤ length ys
    → d + n ≤ length (put_mid d (length xs - d) xs ys)
count-within-middle xs ys d n inside same within =
    rw (same_len_mid d (length xs - d) xs ys same) (count-within xs d n inside (rw same at within))

-- a source that keeps a list gave a piece of its rest
pub Gave-piece : (left xs ys piece : List ℕ) (d n : ℕ) → left ≡ drop d xs → ys ≡ xs → piece ≡ take n (take (length ys - d) (drop d ys))
    → Gave (Some left) (Some (drop (d + n) xs)) piece
Gave-piece left xs ys piece d n left_is same piece_is =
    let P : List ℕ → Type 0 = λ zs. piece ≡ take n (take (length zs - d) (drop d zs)) in
    let Q : List ℕ → Type 0 = λ zs. piece ≡ take n zs in
    let front : piece ≡ take n (drop d xs) = subst Q (take_rest xs d) (subst P same piece_is) in
    ap Some (left_is ∙ sym (take-append-drop n (drop d xs)) ∙ ap (λ (t : List ℕ). take n (drop d xs) ++ t) (drop-drop n d xs)
    ∙ ap (λ (t : List ℕ). t ++ drop (d + n) xs) (sym front))

pub TookSome-both : (a b c : Option (List ℕ)) (p q r xs : List ℕ) → p ++ q ≡ xs → r ≡ q → Took a b p → TookSome b c r → TookSome a c xs
TookSome-both a b c p q r xs whole same first second =
    let P : List ℕ → Type 0 = λ ys. TookSome b c ys in
    let Q : List ℕ → Type 0 = λ ys. TookSome a c ys in
    subst Q whole (TookSome-then a b c p q first (subst P same second))

-- the two bytes of a length
pub prefix-is : (p : List ℕ) (k n : ℕ) → length p ≡ 2 → k ≡ 2 → n ≡ get_or p 0 0 * 256 + get_or p 1 0 → get_or p 0 0 < 256 → get_or p 1 0 < 256
    → take k p ≡ to_be_bytes w16 n
prefix-is [] k n two k_is n_is high_small low_small = absurd (omega arith)
prefix-is (high ∷ []) k n two k_is n_is high_small low_small = absurd (omega arith)
prefix-is (high ∷ low ∷ []) k n two k_is n_is high_small low_small =
    let first : n / 256 % 256 ≡ high = omega arith in
    let second : n % 256 ≡ low = omega arith in
    rw (k_is, first, second) refl
prefix-is (high ∷ low ∷ more ∷ rest) k n two k_is n_is high_small low_small = absurd (omega arith)
