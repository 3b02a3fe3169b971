-- What is used of an input: first of its front, and then of the source.
use Rattle.std.proofs.Common.{ℕ, ◌≡◌, ◌+◌, ◌-◌, ◌%◌, ◌<◌, ◌≤◌, List, [], ◌++◌, length, take, drop, Option, sym, ap, ◌∙◌, arith, inr, append-nil, subst}
use Rattle.std.proofs.Math.Seq.{take-append-add}
use Rattle.std.proofs.lemmas.List.{drop-drop, length-drop, length-take, take-append-drop, take-append-le, take-take, take_all, take_rest}
use Rattle.aoe_io.specs.Bytes.{Gave, IsEnded}
use Rattle.aoe_copy.specs.Feed.{Feeds, IsPiece}

-- the front of a buffer was filled with what stands at a place
pub front-took : (xs piece behind : List ℕ) (u n : ℕ) → length piece ≡ n → piece ≡ take n (take (length xs - u) (drop u xs))
    → drop u xs ≡ take n (piece ++ behind) ++ drop (u + n) xs
front-took xs piece behind u n long is =
    let here : piece ≡ take n (drop u xs) = is ∙ ap (λ (l : List ℕ). take n l) (take_rest xs u) in
    let front : take n (piece ++ behind) ≡ piece = take-append-le n piece behind (omega (arith, long)) ∙ take_all n piece (omega (arith, long)) in
    sym (take-append-drop n (drop u xs)) ∙ ap (λ (l : List ℕ). take n (drop u xs) ++ l) (drop-drop n u xs)
    ∙ ap (λ (l : List ℕ). l ++ drop (u + n) xs) (sym (front ∙ here))

-- the rest of the buffer is filled by the source, where the front is used up
pub fills-on : {left left' : Option (List ℕ)} (a a' out ys post : List ℕ) (n more : ℕ) → a ≡ take n out ++ a' → a' ≡ [] → n ≤ length out → more ≤ length ys
    → Gave left left' (take more ys) → Feeds left left' a a' (take (n + more) (take n out ++ (ys ++ post)))
fills-on {left} {left'} a a' out ys post n more is empty inside within gave =
    let all = take (n + more) (take n out ++ (ys ++ post)) in
    let front : length (take n out) ≡ n = omega (arith, length-take n out) in
    let P : ℕ → Type 0 = λ m. take (m + more) (take n out ++ (ys ++ post)) ≡ take n out ++ take more (ys ++ post) in
    let filled : all ≡ take n out ++ take more ys =
    subst P front (take-append-add (take n out) (ys ++ post) more) ∙ ap (λ (l : List ℕ). take n out ++ l) (take-append-le more ys post within) in
    record {
      fed = take more ys;
      gave = gave;
      all = ap (λ (l : List ℕ). l ++ take more ys) (is ∙ ap (λ (l : List ℕ). take n out ++ l) empty ∙ append-nil (take n out)) ∙ sym filled
          ∙ sym (append-nil all) ∙ ap (λ (l : List ℕ). all ++ l) (sym empty);
      lean = inr empty;
    }

-- a buffer that was lent whole
pub lent-whole : (new items : List ℕ) (len : ℕ) → length new ≡ len → take len (new ++ drop (length new) items) ≡ new
lent-whole new items len long = take-append-le len new (drop (length new) items) (omega (arith, long)) ∙ take_all len new (omega (arith, long))

-- the whole sectors of a buffer, and what is behind them
pub piece-of : {left left' : Option (List ℕ)} (a a' buffer sectors : List ℕ) (n want : ℕ) → length buffer ≡ want → n ≤ want
    → Feeds left left' a a' (take n buffer)
    → (n < want → IsEnded left' × (a' ≡ [])) → sectors ≡ take (n - n % 512) buffer → IsPiece want left left' a a' sectors (n % 512)
piece-of {left} {left'} a a' buffer sectors n want long within f short is =
    let k = n - n % 512 in
    let front : sectors ≡ take k (take n buffer) = is ∙ sym (take-take k n buffer (omega arith)) in
    let both : sectors ++ drop k (take n buffer) ≡ take n buffer =
    ap (λ (l : List ℕ). l ++ drop k (take n buffer)) front ∙ take-append-drop k (take n buffer) in
    let many : length sectors ≡ k = omega (arith, ap (λ (l : List ℕ). length l) is, length-take k buffer, long, within) in
    record {
      rest = drop k (take n buffer);
      rest_is = omega (arith, length-drop k (take n buffer), length-take n buffer, long, within);
      feeds = rw both f;
      whole = omega (arith, many);
      less = omega arith;
      most = omega (arith, many, within);
      short = λ less. short (omega (arith, many, less));
    }
