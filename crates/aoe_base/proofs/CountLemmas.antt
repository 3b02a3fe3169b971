-- How many of a list pass a test.
use Rattle.std.proofs.Common.{zero-add, ◌≡◌, ◌+◌, ◌&&◌, cond, Bool, true, false, List, [], ◌∷◌, length, map, refl, sym, ◌∙◌, arith}
use Rattle.std.specs.List.{count_by, filter}
use Rattle.std.specs.Prelude.{All}
use Rattle.std.proofs.lemmas.List.Elements.{All-cons, All-head, All-nil, All-tail}
use Rattle.std.proofs.lemmas.List.Sums.{sum_by-cons}

pub count-cons : {X : Type 0} (test : X → Bool) (x : X) (xs : List X) → count_by test (x ∷ xs) ≡ cond (test x) 1 0 + count_by test xs
count-cons {X} test x xs = sum_by-cons (λ (y : X). cond (test y) 1 0) x xs

pub count-yes : {X : Type 0} (test : X → Bool) (x : X) (xs : List X) → test x ≡ true → count_by test (x ∷ xs) ≡ 1 + count_by test xs
count-yes test x xs is = count-cons test x xs ∙ rw is refl

pub count-no : {X : Type 0} (test : X → Bool) (x : X) (xs : List X) → test x ≡ false → count_by test (x ∷ xs) ≡ count_by test xs
count-no test x xs is = count-cons test x xs ∙ rw is (zero-add (count_by test xs))

pub count-filter : {X : Type 0} (test p : X → Bool) (xs : List X) → count_by test (filter p xs) ≡ count_by (λ x. p x && test x) xs
count-filter test p [] = refl
count-filter test p (x ∷ xs) = at (p x) refl (count-filter test p xs)
  where
    at : (b : Bool) → p x ≡ b → count_by test (filter p xs) ≡ count_by (λ y. p y && test y) xs
        → count_by test (cond b (x ∷ filter p xs) (filter p xs)) ≡ count_by (λ y. p y && test y) (x ∷ xs)
    at true is same = count-cons test x (filter p xs) ∙ rw same (sym (count-cons (λ y. p y && test y) x xs ∙ rw is refl))
    at false is same = same ∙ sym (count-no (λ y. p y && test y) x xs (rw is refl))

pub count-map : {X Y : Type 0} (test : Y → Bool) (f : X → Y) (xs : List X) → count_by test (map f xs) ≡ count_by (λ x. test (f x)) xs
count-map test f [] = refl
count-map test f (x ∷ xs) = count-cons test (f x) (map f xs) ∙ rw (count-map test f xs) (sym (count-cons (λ y. test (f y)) x xs))

-- two tests that answer alike
pub count-alike : {X : Type 0} (p q : X → Bool) → ((x : X) → p x ≡ q x) → (xs : List X) → count_by p xs ≡ count_by q xs
count-alike p q same [] = refl
count-alike p q same (x ∷ xs) = count-cons p x xs ∙ rw (same x, count-alike p q same xs) (sym (count-cons q x xs))

-- all pass or none, by the count
pub all-none : {X : Type 0} (test : X → Bool) (xs : List X) → All (λ c. test c ≡ false) xs → count_by test xs ≡ 0
all-none test [] all = refl
all-none test (x ∷ xs) all =
    count-no test x xs (All-head (λ c. test c ≡ false) x xs all) ∙ all-none test xs (All-tail (λ c. test c ≡ false) x xs all)

pub none-all : {X : Type 0} (test : X → Bool) (xs : List X) → count_by test xs ≡ 0 → All (λ c. test c ≡ false) xs
none-all test [] none = All-nil (λ c. test c ≡ false)
none-all test (x ∷ xs) none = at (test x) refl (none-all test xs)
  where
    at : (b : Bool) → test x ≡ b → (count_by test xs ≡ 0 → All (λ c. test c ≡ false) xs) → All (λ c. test c ≡ false) (x ∷ xs)
    at true is rest = absurd (omega (arith, count-yes test x xs is, none))
    at false is rest = All-cons (λ c. test c ≡ false) x xs is (rest (sym (count-no test x xs is) ∙ none))

-- a test that one of two others passes, and never both
pub count-split : {X : Type 0} (p q r : X → Bool) → ((x : X) → cond (p x) 1 0 ≡ cond (q x) 1 0 + cond (r x) 1 0) → (xs : List X)
    → count_by p xs ≡ count_by q xs + count_by r xs
count-split p q r same [] = refl
count-split p q r same (x ∷ xs) = omega (arith, count-cons p x xs, count-cons q x xs, count-cons r x xs, same x, count-split p q r same xs)

-- two tests that answer alike of each of a list
pub count-agree : {X : Type 0} (p q : X → Bool) (xs : List X) → All (λ x. p x ≡ q x) xs → count_by p xs ≡ count_by q xs
count-agree p q [] same = refl
count-agree p q (x ∷ xs) same =
    count-cons p x xs ∙ rw (All-head (λ y. p y ≡ q y) x xs same, count-agree p q xs (All-tail (λ y. p y ≡ q y) x xs same)) (sym (count-cons q x xs))

pub count-all : {X : Type 0} (xs : List X) → count_by (λ x. true) xs ≡ length xs
count-all [] = refl
count-all (x ∷ xs) = count-cons (λ y. true) x xs ∙ rw (count-all xs) (omega arith)
