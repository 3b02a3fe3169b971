-- Words that spaces part, and lines that line feeds end, read back.
use Rattle.std.proofs.Common.{◌≡◌, ◌∙◌, ◌-◌, ◌==◌, ℕ, Bool, true, not, cond, List, [], ◌∷◌, ◌++◌, length, map, filter, take, refl, ap, arith, nat_lt, append_assoc}
use Rattle.std.specs.List.{flat_map, list_all, slice_split}
use Rattle.std.specs.Str.Lines.{lines, lines_of_parts, strip_carriage_return}
use Rattle.std.proofs.lemmas.Bool.{and_parts, not-true}
use Rattle.std.proofs.lemmas.Bool.Decides.{nat_tests}
use Rattle.aoe_script.specs.Print.{line_text, spaced, spelled}
use Rattle.aoe_script.specs.Words.{words}
use Rattle.std.proofs.lemmas.List.{append-nil}
use Rattle.aoe_script.proofs.LineLemmas.{more_parts}
use Rattle.aoe_script.proofs.PlainLemmas.{all_append, all_at, all_weaker, first_part, is_plain, is_word, one_part}

plain_lacks : (c : ℕ) → is_plain c ≡ true → not (c == 32) ≡ true
plain_lacks c e = grind (arith, nat_tests)

-- what a first word that is one tells
plain_first : (word : List ℕ) (ws : List (List ℕ)) → list_all is_word (word ∷ ws) ≡ true → (list_all is_plain word ≡ true) × (list_all is_word ws ≡ true)
plain_first word ws e =
    let h = and_parts (is_word word) (list_all is_word ws) e in
    ((and_parts (nat_lt 0 (length word)) (list_all is_plain word) h.0).1, h.1)

word_parts : (first : List ℕ) (ws : List (List ℕ)) → list_all is_word (first ∷ ws) ≡ true → slice_split (λ c. c == 32) (first ++ spaced ws) ≡ first ∷ ws
word_parts first [] e = rw (append-nil first) (one_part 32 first (all_weaker is_plain _ plain_lacks first (plain_first first [] e).0))
word_parts first (word ∷ ws) e =
    let h = plain_first first (word ∷ ws) e in
    first_part 32 first (word ++ spaced ws) (all_weaker is_plain _ plain_lacks first h.0) ∙ ap (λ parts. first ∷ parts) (word_parts word ws h.1)

all_kept : (ws : List (List ℕ)) → list_all is_word ws ≡ true → filter (λ word. nat_lt 0 (length word)) ws ≡ ws
all_kept [] e = refl
all_kept (word ∷ ws) e =
    let h = and_parts (is_word word) (list_all is_word ws) e in
    let some = (and_parts (nat_lt 0 (length word)) (list_all is_plain word) h.0).0 in
    rw (some, all_kept ws h.1) refl

-- the words of a line of them
pub words_back : (ws : List (List ℕ)) → list_all is_word ws ≡ true → words (spelled ws) ≡ ws
unfolding words
words_back [] e = refl
words_back (first ∷ ws) e = ap (filter (λ word. nat_lt 0 (length word))) (word_parts first ws e) ∙ all_kept (first ∷ ws) e

-- ---- lines

-- a byte of a line: a space or one of a word
abbrev is_of_line : ℕ → Bool
is_of_line c = nat_lt 31 c

plain_of_line : (c : ℕ) → is_plain c ≡ true → is_of_line c ≡ true
plain_of_line c e = grind (arith, nat_tests)

spaced_of_line : (ws : List (List ℕ)) → list_all is_word ws ≡ true → list_all is_of_line (spaced ws) ≡ true
spaced_of_line [] e = refl
spaced_of_line (word ∷ ws) e =
    let h = plain_first word ws e in
    all_append is_of_line word (spaced ws) (all_weaker is_plain is_of_line plain_of_line word h.0) (spaced_of_line ws h.1)

spelled_of_line : (ws : List (List ℕ)) → list_all is_word ws ≡ true → list_all is_of_line (spelled ws) ≡ true
spelled_of_line [] e = refl
spelled_of_line (word ∷ ws) e = spaced_of_line (word ∷ ws) e

no_feed : (c : ℕ) → is_of_line c ≡ true → not (c == 10) ≡ true
no_feed c e = grind (arith, nat_tests)

no_return : (c : ℕ) → is_of_line c ≡ true → not (c == 13) ≡ true
no_return c e = grind (arith, nat_tests)

-- no carriage return stands at the end
not_stripped : (text : List ℕ) → list_all is_of_line text ≡ true → strip_carriage_return text ≡ text
not_stripped text e =
    let other = not-true _ (all_at (λ c. not (c == 13)) refl text (length text - 1) (all_weaker is_of_line _ no_return text e)) in
    ap (λ b. cond b (take (length text - 1) text) text) other

-- a line and its line feed before a text
pub line_first : (ws : List (List ℕ)) (rest : List ℕ) → list_all is_word ws ≡ true → lines (line_text ws ++ rest) ≡ spelled ws ∷ lines rest
line_first ws rest e =
    let text : List ℕ = spelled ws in
    let fine = spelled_of_line ws e in
    ap lines (append_assoc text (10 ∷ []) rest) ∙ ap lines_of_parts (first_part 10 text rest (all_weaker is_of_line _ no_feed text fine))
    ∙ more_parts text rest ∙ ap (λ t. t ∷ lines rest) (not_stripped text fine)

pub lines_back : {X : Type 0} (f : X → List (List ℕ)) (xs : List X) (rest : List ℕ) → list_all (λ x. list_all is_word (f x)) xs ≡ true
    → lines (flat_map (λ x. line_text (f x)) xs ++ rest) ≡ map (λ x. spelled (f x)) xs ++ lines rest
lines_back f [] rest e = refl
lines_back f (x ∷ xs) rest e =
    let h = and_parts (list_all is_word (f x)) (list_all (λ x. list_all is_word (f x)) xs) e in
    let text : List ℕ = flat_map (λ x. line_text (f x)) xs in
    ap lines (append_assoc (line_text (f x)) text rest) ∙ line_first (f x) (text ++ rest) h.0 ∙ ap (λ t. spelled (f x) ∷ t) (lines_back f xs rest h.1)
