-- The words of a line, one after the other.
use Rattle.std.proofs.Common.{◌≡◌, ◌+◌, ◌-◌, ◌<◌, ◌≤◌, ◌==◌, ℕ, suc, Bool, true, false, cond, not, List, [], ◌∷◌, ◌++◌, length, take, drop, nat_lt, filter, refl, sym, ap, ◌∙◌, arith, length-take, length-drop}
use Rattle.std.specs.List.{slice_split, onto_first, position_or_len}
use Rattle.std.proofs.lemmas.List.{append-nil, take_all, nil_from_length}
use Rattle.std.proofs.lemmas.Bool.{eqb-true, lt-ltb}
use Rattle.std.proofs.Math.Seq.{take-append_seam}
use Rattle.aoe_script.proofs.SplitLemmas.{cut, position_or_len-le}
use Rattle.aoe_script.specs.Words.{few_words, words}

space_first : (c : ℕ) (line : List ℕ) → (c == 32) ≡ true → words (c ∷ line) ≡ words line
unfolding words
space_first c line is =
    ap (λ b. filter (λ word. nat_lt 0 (length word)) (cond b ([] ∷ slice_split (λ c. c == 32) line) (onto_first c (slice_split (λ c. c == 32) line)))) is

-- spaces at the front say nothing
pub past_spaces : (line : List ℕ) → words line ≡ words (drop (position_or_len (λ c. not (c == 32)) line) line)
past_spaces [] = refl
past_spaces (c ∷ line) = go (past_spaces line) (c == 32) refl
  where
    go : words line ≡ words (drop (position_or_len (λ c. not (c == 32)) line) line) → (b : Bool) → (c == 32) ≡ b
        → words (c ∷ line) ≡ words (drop (position_or_len (λ c. not (c == 32)) (c ∷ line)) (c ∷ line))
    go h true is =
        let one : 1 + position_or_len (λ c. not (c == 32)) line ≡ suc (position_or_len (λ c. not (c == 32)) line) = omega arith in
        space_first c line is ∙ h ∙ rw (is, one) refl
    go h false is = rw is refl

pub no_words : words [] ≡ []
unfolding words
no_words = refl

-- what stands behind the spaces begins with none
behind_spaces : (line : List ℕ) → (x : ℕ) (xs : List ℕ) → drop (position_or_len (λ c. not (c == 32)) line) line ≡ x ∷ xs → (x == 32) ≡ false
behind_spaces [] x xs e = absurd cc
behind_spaces (c ∷ line) x xs e = go (behind_spaces line) (c == 32) refl e
  where
    go : ((x : ℕ) (xs : List ℕ) → drop (position_or_len (λ c. not (c == 32)) line) line ≡ x ∷ xs → (x == 32) ≡ false)
        → (b : Bool) → (c == 32) ≡ b → drop (cond (not (not b)) (1 + position_or_len (λ c. not (c == 32)) line) 0) (c ∷ line) ≡ x ∷ xs → (x == 32) ≡ false
    go h true is e =
        let one : 1 + position_or_len (λ c. not (c == 32)) line ≡ suc (position_or_len (λ c. not (c == 32)) line) = omega arith in
        h x xs (rw one at e)
    go h false is e = let same : c ≡ x = cc in ap (λ y. y == 32) (sym same) ∙ is

begins : (line rest : List ℕ) → rest ≡ drop (position_or_len (λ c. not (c == 32)) line) line → 0 < length rest → 0 < position_or_len (λ c. c == 32) rest
begins line [] is some = absurd (omega (arith, some))
begins line (x ∷ xs) is some =
    let other = behind_spaces line x xs (sym is) in
    rw other (omega arith)

-- a word ends before the next space
pub first_word : (line : List ℕ) → 0 < position_or_len (λ c. c == 32) line → 0 < length line
    → words line ≡ take (position_or_len (λ c. c == 32) line) line ∷ words (drop (position_or_len (λ c. c == 32) line) line)
unfolding words
first_word line some long =
    let c = cut (λ c. c == 32) line in
    let most = position_or_len-le (λ c. c == 32) line in
    let long_enough : 0 < length (take (position_or_len (λ c. c == 32) line) line) = rw length-take (omega (arith, some, most)) in
    let full : nat_lt 0 (length (take (position_or_len (λ c. c == 32) line) line)) ≡ true = lt-ltb 0 _ long_enough in
    rw (c.whole, c.behind, full) refl

-- a line, its rest behind the spaces at the front, and what stands behind the first word of that
module _ (line rest behind : List ℕ) (start end : ℕ) (start_is : start ≡ position_or_len (λ c. not (c == 32)) line) (rest_is : rest ≡ drop start line)
    (end_is : end ≡ position_or_len (λ c. c == 32) rest) (behind_is : behind ≡ drop end rest) (some : (length rest == 0) ≡ false) where
  rest_at : rest ≡ drop (position_or_len (λ c. not (c == 32)) line) line
  rest_at = rest_is ∙ ap (λ i. drop i line) start_is

  long : 0 < length rest
  long = grind arith

  pub next_is : words line ≡ take end rest ∷ words behind
  next_is =
      past_spaces line ∙ ap words (sym rest_at) ∙ first_word rest (begins line rest rest_at long) long
      ∙ ap (λ i. take i rest ∷ words (drop i rest)) (sym end_is) ∙ ap (λ t. take end rest ∷ words t) (sym behind_is)

  pub shorter : length behind < length line
  shorter =
      let first = begins line rest rest_at long in
      let most = position_or_len-le (λ c. c == 32) rest in
      let one : length behind ≡ length rest - end = ap length behind_is ∙ length-drop end rest in
      let two : length rest ≡ length line - start = ap length rest_is ∙ length-drop start line in
      omega (arith, first, most, one, two, end_is)

-- nothing stands behind the spaces
pub none_is : (line rest : List ℕ) (start : ℕ) → start ≡ position_or_len (λ c. not (c == 32)) line → rest ≡ drop start line → (length rest == 0) ≡ true
    → words line ≡ []
none_is line rest start start_is rest_is none =
    past_spaces line ∙ ap words (sym (rest_is ∙ ap (λ i. drop i line) start_is) ∙ nil_from_length rest (eqb-true (length rest) 0 none)) ∙ no_words

-- a list that has room for no more words, and one to which no more come
pub full_list : (line : List ℕ) (list rest : List (List ℕ)) → words line ≡ list ++ rest → length list ≡ 7 → list ≡ few_words line
full_list line list rest h full =
    sym (ap (take 7) h ∙ ap (λ n. take n (list ++ rest)) (sym full) ∙ take-append_seam list rest)

pub ended_list : (line : List ℕ) (list rest : List (List ℕ)) → words line ≡ list ++ rest → rest ≡ [] → length list ≤ 7 → list ≡ few_words line
ended_list line list rest h none few =
    sym (take_all 7 list few) ∙ ap (take 7) (sym (h ∙ ap (λ r. list ++ r) none ∙ append-nil list))
