-- Bytes that no list of words, parts or lines is cut at.
use Rattle.std.proofs.Common.{◌≡◌, ◌∙◌, ◌==◌, ℕ, zero, suc, Bool, true, not, ◌&&◌, List, [], ◌∷◌, ◌++◌, length, get_or, map, refl, ap, nat_lt}
use Rattle.std.specs.List.{AllByRecursion, list_all, join_with_byte, slice_split}
use Rattle.std.proofs.lemmas.Bool.{and_from, and_parts, eq-eqb, not-true}
use Rattle.std.proofs.lemmas.List.Folds.{list_all-append}

-- a byte that a word may have: no space, no control character
abbrev pub is_plain : ℕ → Bool
is_plain c = nat_lt 32 c

-- one that a part of a list may have as well: no comma
abbrev pub is_part : ℕ → Bool
is_part c = nat_lt 32 c && not (c == 44)

abbrev pub is_word : List ℕ → Bool
is_word word = nat_lt 0 (length word) && list_all is_plain word

-- the byte isn't in the text
abbrev pub lacks : ℕ → List ℕ → Bool
lacks c = list_all (λ x. not (x == c))

pub all_weaker : {X : Type 0} (p q : X → Bool) → ((x : X) → p x ≡ true → q x ≡ true) → (xs : List X) → list_all p xs ≡ true → list_all q xs ≡ true
all_weaker p q weaker [] e = refl
all_weaker p q weaker (x ∷ xs) e = let h = and_parts (p x) (list_all p xs) e in and_from (q x) (list_all q xs) (weaker x h.0) (all_weaker p q weaker xs h.1)

pub all_tested : {X : Type 0} (P : X → Type 0) (p : X → Bool) → ((x : X) → P x → p x ≡ true) → (xs : List X) → AllByRecursion P xs → list_all p xs ≡ true
all_tested P p tested [] h = refl
all_tested P p tested (x ∷ xs) h = and_from (p x) (list_all p xs) (tested x h.0) (all_tested P p tested xs h.1)

pub all_also : {X : Type 0} (P Q : X → Type 0) → ((x : X) → P x → Q x) → (xs : List X) → AllByRecursion P xs → AllByRecursion Q xs
all_also P Q also [] h = tt
all_also P Q also (x ∷ xs) h = (also x h.0, all_also P Q also xs h.1)

pub all_append : {X : Type 0} (p : X → Bool) (xs ys : List X) → list_all p xs ≡ true → list_all p ys ≡ true → list_all p (xs ++ ys) ≡ true
all_append p xs ys e f = list_all-append p xs ys ∙ and_from (list_all p xs) (list_all p ys) e f

pub all_at : (p : ℕ → Bool) → p 0 ≡ true → (xs : List ℕ) (i : ℕ) → list_all p xs ≡ true → p (get_or xs i 0) ≡ true
all_at p none [] i e = none
all_at p none (x ∷ xs) zero e = (and_parts (p x) (list_all p xs) e).0
all_at p none (x ∷ xs) (suc i) e = all_at p none xs i (and_parts (p x) (list_all p xs) e).1

-- parts that a byte joins
pub all_joined : {X : Type 0} (p : ℕ → Bool) (c : ℕ) (f : X → List ℕ) (xs : List X) → p c ≡ true → list_all (λ x. list_all p (f x)) xs ≡ true
    → list_all p (join_with_byte c (map f xs)) ≡ true
all_joined p c f [] e each = refl
all_joined p c f (x ∷ []) e each = (and_parts (list_all p (f x)) true each).0
all_joined p c f (x ∷ y ∷ ys) e each =
    let h = and_parts (list_all p (f x)) (list_all (λ x. list_all p (f x)) (y ∷ ys)) each in
    all_append p (f x) (c ∷ join_with_byte c (map f (y ∷ ys))) h.0
    (and_from (p c) (list_all p (join_with_byte c (map f (y ∷ ys)))) e (all_joined p c f (y ∷ ys) e h.1))

-- a text that lacks the byte is one part
pub one_part : (c : ℕ) (text : List ℕ) → lacks c text ≡ true → slice_split (λ x. x == c) text ≡ text ∷ []
one_part c [] e = refl
one_part c (x ∷ text) e =
    let h = and_parts (not (x == c)) (lacks c text) e in
    let other = not-true (x == c) h.0 in
    rw (other, one_part c text h.1) refl

-- and ends before the first such byte
pub first_part : (c : ℕ) (text rest : List ℕ) → lacks c text ≡ true → slice_split (λ x. x == c) (text ++ c ∷ rest) ≡ text ∷ slice_split (λ x. x == c) rest
first_part c [] rest e = let same : (c == c) ≡ true = eq-eqb c c refl in rw same refl
first_part c (x ∷ text) rest e =
    let h = and_parts (not (x == c)) (lacks c text) e in
    let other = not-true (x == c) h.0 in
    rw (other, first_part c text rest h.1) refl

-- parts that lack the byte, joined by it
pub parts_back : {X : Type 0} (c : ℕ) (f : X → List ℕ) (x : X) (xs : List X) → list_all (λ x. lacks c (f x)) (x ∷ xs) ≡ true
    → slice_split (λ x. x == c) (join_with_byte c (map f (x ∷ xs))) ≡ map f (x ∷ xs)
parts_back c f x [] e = one_part c (f x) (and_parts (lacks c (f x)) true e).0
parts_back c f x (y ∷ ys) e =
    let h = and_parts (lacks c (f x)) (list_all (λ x. lacks c (f x)) (y ∷ ys)) e in
    first_part c (f x) (join_with_byte c (map f (y ∷ ys))) h.0 ∙ ap (λ parts. f x ∷ parts) (parts_back c f y ys h.1)
