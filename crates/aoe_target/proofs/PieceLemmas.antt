-- Pieces of a frame.
use Rattle.std.proofs.Common.{◌≡◌, ◌≤◌, ◌+◌, ◌-◌, ℕ, List, [], ◌∷◌, ◌++◌, length, take, drop, replicate, min, sym, ap, subst, ◌∙◌, arith, append_assoc, length-append, length-drop}
use Rattle.std.specs.List.{refill}
use Rattle.std.proofs.lemmas.List.{append-nil, take_at, drop_at, drop_all, drop-replicate, take_min, length-take-le, take-append-drop}
use Rattle.aoe_frame.specs.Header.{padded}

-- the bytes from 24 up to 60, or up to the end of a shorter list
pub up_to_sixty : (f : List ℕ) (m : ℕ) → m ≡ min (length f) 60 → take (m - 24) (drop 24 f) ≡ take 36 (drop 24 f)
up_to_sixty f m e =
    let same : m - 24 ≡ min 36 (length (drop 24 f)) = omega (arith, length-drop 24 f) in
    ap (λ (n : ℕ). take n (drop 24 f)) same ∙ take_min 36 (drop 24 f)

-- a list whose rest from the 36th place on was written through a slice
pub rewritten : (xs vs ys : List ℕ) (n : ℕ) → vs ≡ xs → length xs ≡ 36 + n → length ys ≡ n
    → refill (length xs) xs (take 36 vs ++ (ys ++ drop (length vs - 36) (drop 36 vs))) ≡ take 36 xs ++ ys
rewritten xs vs ys n same whole part =
    let P : List ℕ → Type 0 = λ v. refill (length xs) xs (take 36 v ++ (ys ++ drop (length v - 36) (drop 36 v))) ≡ take 36 xs ++ ys in
    subst P (sym same)
    (let none : drop (length xs - 36) (drop 36 xs) ≡ [] = drop_all (length xs - 36) (drop 36 xs) (omega (arith, length-drop 36 xs)) in
    let all : take 36 xs ++ (ys ++ drop (length xs - 36) (drop 36 xs)) ≡ take 36 xs ++ ys =
    ap (λ (l : List ℕ). take 36 xs ++ (ys ++ l)) none ∙ ap (λ (l : List ℕ). take 36 xs ++ l) (append-nil ys) in
    let size : length (take 36 xs ++ ys) ≡ length xs = omega (arith, length-append (take 36 xs) ys, length-take-le 36 xs (omega arith)) in
    ap (λ (l : List ℕ). refill (length xs) xs l) all ∙ take_at (take 36 xs ++ ys) (drop (length (take 36 xs ++ ys)) xs) (length xs) size)

pub front_of : (xs ys : List ℕ) → 36 ≤ length xs → take 36 (take 36 xs ++ ys) ≡ take 36 xs
front_of xs ys long = take_at (take 36 xs) ys 36 (length-take-le 36 xs long)

pub back_of : (xs ys : List ℕ) → 36 ≤ length xs → drop 36 (take 36 xs ++ ys) ≡ ys
back_of xs ys long = drop_at (take 36 xs) ys 36 (length-take-le 36 xs long)

-- a reply that has data isn't padded
pub padded_whole : (out : List ℕ) → 60 ≤ length out → out ≡ padded out
padded_whole out long =
    let none : 60 - length out ≡ 0 = omega (arith, long) in
    sym (ap (λ (n : ℕ). out ++ replicate n 0) none ∙ append-nil out)

-- the data in a padded reply
pub data_in : (out : List ℕ) (n : ℕ) → length out ≡ 36 + n → take (36 + n - 36) (drop 36 (padded out)) ≡ drop 36 out
data_in out n size =
    let zeros : List ℕ = replicate (60 - length out) 0 in
    let split : padded out ≡ take 36 out ++ (drop 36 out ++ zeros) =
    ap (λ (l : List ℕ). l ++ zeros) (sym (take-append-drop 36 out)) ∙ append_assoc (take 36 out) (drop 36 out) zeros in
    ap (λ (l : List ℕ). take (36 + n - 36) (drop 36 l)) split
    ∙ ap (λ (l : List ℕ). take (36 + n - 36) l) (drop_at (take 36 out) (drop 36 out ++ zeros) 36 (length-take-le 36 out (omega arith)))
    ∙ take_at (drop 36 out) zeros (36 + n - 36) (omega (arith, length-drop 36 out))

-- arguments over the first of 36 zeros behind a header, and nothing behind them
pub short_is : (head args none : List ℕ) → length head ≡ 24 → length args ≤ 36 → length none ≡ 0
    → head ++ ((args ++ drop (length args) (replicate 36 0)) ++ none) ≡ padded (head ++ args)
short_is head args [] size short empty =
    let zeros : drop (length args) (replicate 36 0) ≡ replicate (60 - length (head ++ args)) 0 =
    drop-replicate (length args) 36 0 ∙ ap (λ (n : ℕ). replicate n 0) (omega (arith, length-append head args)) in
    ap (λ (l : List ℕ). head ++ l) (append-nil (args ++ drop (length args) (replicate 36 0)))
    ∙ ap (λ (l : List ℕ). head ++ (args ++ l)) zeros ∙ sym (append_assoc head args (replicate (60 - length (head ++ args)) 0))
short_is head args (x ∷ none) size short empty = absurd (omega arith)
