-- A piece laid over a list.
use Rattle.std.proofs.Common.{◌≡◌, ℕ, ◌+◌, ◌-◌, ◌<◌, ◌≤◌, List, ◌++◌, append_assoc, length, get_or, drop, take, sym, ap, subst, ◌∙◌, arith}
use Rattle.std.proofs.Math.Seq.{drop-append-add}
use Rattle.std.proofs.lemmas.List.{take_at, drop-drop, length-append, length-take-le, length-drop, get_or_append_left, get_or-take, get_or-append-add}
use Rattle.aoe_ata.specs.Identify.{laid}

-- the part before a piece, and the piece
length-front : (under piece : List ℕ) (n : ℕ) → n ≤ length under → length (take n under ++ piece) ≡ n + length piece
length-front under piece n inside = length-append (take n under) piece ∙ ap (λ (k : ℕ). k + length piece) (length-take-le n under inside)

pub length-laid : (under piece : List ℕ) (n : ℕ) → n + length piece ≤ length under → length (laid under n piece) ≡ length under
length-laid under piece n inside =
    let front : length (take n under ++ piece) ≡ n + length piece = length-front under piece n (omega arith) in
    let back : length (drop (n + length piece) under) ≡ length under - (n + length piece) = length-drop (n + length piece) under in
    length-append (take n under ++ piece) (drop (n + length piece) under) ∙ omega arith

-- a piece laid right behind another is one piece with it
pub laid-more : (under xs ys : List ℕ) (n m : ℕ) → n + length xs ≤ length under → m ≡ n + length xs → laid (laid under n xs) m ys ≡ laid under n (xs ++ ys)
laid-more under xs ys n m inside behind =
    let front-long : length (take n under ++ xs) ≡ m = length-front under xs n (omega arith) ∙ sym behind in
    let kept : take m (laid under n xs) ≡ take n under ++ xs = take_at (take n under ++ xs) (drop (n + length xs) under) m front-long in
    let left : drop (m + length ys) (laid under n xs) ≡ drop (length ys) (drop (n + length xs) under) =
    subst (λ (k : ℕ). drop (k + length ys) (laid under n xs) ≡ drop (length ys) (drop (n + length xs) under)) front-long
    (drop-append-add (take n under ++ xs) (drop (n + length xs) under) (length ys)) in
    let rest : drop (length ys) (drop (n + length xs) under) ≡ drop (n + length (xs ++ ys)) under =
    drop-drop (length ys) (n + length xs) under ∙ ap (λ (k : ℕ). drop k under) (omega (arith, length-append xs ys)) in
    ap (λ (l : List ℕ). l ++ ys ++ drop (m + length ys) (laid under n xs)) kept
    ∙ ap (λ (l : List ℕ). take n under ++ xs ++ ys ++ l) (left ∙ rest)
    ∙ ap (λ (l : List ℕ). l ++ drop (n + length (xs ++ ys)) under) (append_assoc (take n under) xs ys)

-- what stands before a piece, and in it
pub get-laid_before : (under piece : List ℕ) (n k : ℕ) → n ≤ length under → k < n → get_or (laid under n piece) k 0 ≡ get_or under k 0
get-laid_before under piece n k inside before =
    let front : length (take n under ++ piece) ≡ n + length piece = length-front under piece n inside in
    let long : length (take n under) ≡ n = length-take-le n under inside in
    get_or_append_left (take n under ++ piece) (drop (n + length piece) under) 0 k (omega arith)
    ∙ get_or_append_left (take n under) piece 0 k (omega arith)
    ∙ get_or-take n under k 0 before

pub get-laid_in : (under piece : List ℕ) (n i : ℕ) → n ≤ length under → i < length piece → get_or (laid under n piece) (n + i) 0 ≡ get_or piece i 0
get-laid_in under piece n i inside within =
    let front : length (take n under ++ piece) ≡ n + length piece = length-front under piece n inside in
    let long : length (take n under) ≡ n = length-take-le n under inside in
    get_or_append_left (take n under ++ piece) (drop (n + length piece) under) 0 (n + i) (omega arith)
    ∙ subst (λ (k : ℕ). get_or (take n under ++ piece) (k + i) 0 ≡ get_or piece i 0) long (get_or-append-add (take n under) piece i 0)
