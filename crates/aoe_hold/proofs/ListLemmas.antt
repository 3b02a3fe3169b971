-- Lists of which a test leaves out what another test would leave out too, and tests of whole lists.
use Rattle.std.proofs.Common.{◌≡◌, ◌||◌, ◌&&◌, Bool, true, false, List, [], ◌∷◌, ◌++◌, map, inl, inr, refl, ◌∙◌, arith, get_or, suc}
use Rattle.std.specs.List.{count_by, filter, list_any}
use Rattle.std.specs.Prelude.{All}
use Rattle.std.proofs.lemmas.Bool.{and_parts, cases_Bool, or_parts}
use Rattle.std.proofs.lemmas.List.Elements.{All-cons, All-nil}
use Rattle.std.proofs.lemmas.List.Folds.{list_any-append}
use Rattle.aoe_base.proofs.CountLemmas.{count-alike, count-filter}

module _ {X : Type 0} (p q : X → Bool) (out : (x : X) → p x ≡ false → q x ≡ false) where
  pub filter-filter : (xs : List X) → filter q (filter p xs) ≡ filter q xs
  filter-filter [] = refl
  filter-filter (x ∷ xs) = elim (cases_Bool (p x)) [
    | inl stays ↦ rw (stays, filter-filter xs) refl
    | inr goes ↦ rw (goes, out x goes) (filter-filter xs)
  ]

  pub list_any-filter : (xs : List X) → list_any q (filter p xs) ≡ list_any q xs
  list_any-filter [] = refl
  list_any-filter (x ∷ xs) = elim (cases_Bool (p x)) [
    | inl stays ↦ rw (stays, list_any-filter xs) refl
    | inr goes ↦ rw (goes, out x goes) (list_any-filter xs)
  ]

  pub count_by-filter : (xs : List X) → count_by q (filter p xs) ≡ count_by q xs
  count_by-filter xs = count-filter q p xs ∙ count-alike (λ x. p x && q x) q (λ x. grind (arith, out x)) xs

pub filter-map : {X : Type 0} (p q : X → Bool) (f : X → X) → ((x : X) → p x ≡ false → q (f x) ≡ false)
    → (xs : List X) → filter q (map f (filter p xs)) ≡ filter q (map f xs)
filter-map p q f out [] = refl
filter-map p q f out (x ∷ xs) = elim (cases_Bool (p x)) [
  | inl stays ↦ rw (stays, filter-map p q f out xs) refl
  | inr goes ↦ rw (goes, out x goes) (filter-map p q f out xs)
]

pub filter-alike : {X : Type 0} (p q : X → Bool) → ((x : X) → p x ≡ q x) → (xs : List X) → filter p xs ≡ filter q xs
filter-alike p q same [] = refl
filter-alike p q same (x ∷ xs) = rw (same x, filter-alike p q same xs) refl

pub any-agree : {X : Type 0} (p q : X → Bool) (xs : List X) → All (λ x. p x ≡ q x) xs → list_any p xs ≡ list_any q xs
any-agree p q [] same = refl
any-agree p q (x ∷ xs) same = rw (same 0 x (omega arith), any-agree p q xs (λ k d below. same (suc k) d (omega arith))) refl

pub any-alike : {X : Type 0} (p q : X → Bool) → ((x : X) → p x ≡ q x) → (xs : List X) → list_any p xs ≡ list_any q xs
any-alike p q same xs = any-agree p q xs (λ k d below. same (get_or xs k d))

-- a change that the test doesn't see
pub any-kept : {X : Type 0} (p : X → Bool) (f : X → X) (xs : List X) → All (λ x. p (f x) ≡ p x) xs → list_any p (map f xs) ≡ list_any p xs
any-kept p f [] same = refl
any-kept p f (x ∷ xs) same = rw (same 0 x (omega arith), any-kept p f xs (λ k d below. same (suc k) d (omega arith))) refl

pub any-map : {X Y : Type 0} (p : Y → Bool) (f : X → Y) (xs : List X) → list_any p (map f xs) ≡ list_any (λ x. p (f x)) xs
any-map p f [] = refl
any-map p f (x ∷ xs) = rw (any-map p f xs) refl

pub any-or : {X : Type 0} (p q : X → Bool) (xs : List X) → list_any (λ x. p x || q x) xs ≡ (list_any p xs || list_any q xs)
any-or p q [] = refl
any-or p q (x ∷ xs) = grind (arith, any-or p q xs)

pub any-push : {X : Type 0} (p : X → Bool) (xs : List X) (x : X) → list_any p (xs ++ x ∷ []) ≡ (list_any p xs || p x)
any-push p xs x = rw (list_any-append p xs (x ∷ [])) (grind arith)

pub none-any : {X : Type 0} (p : X → Bool) (xs : List X) → list_any p xs ≡ false → All (λ x. p x ≡ false) xs
none-any p [] out = All-nil (λ x. p x ≡ false)
none-any p (x ∷ xs) out = let parts = or_parts (p x) (list_any p xs) out in All-cons (λ y. p y ≡ false) x xs parts.0 (none-any p xs parts.1)

pub any-implies : {X : Type 0} (p q : X → Bool) → ((x : X) → p x ≡ true → q x ≡ true) → (xs : List X) → list_any p xs ≡ true → list_any q xs ≡ true
any-implies p q each [] is = absurd cc
any-implies p q each (x ∷ xs) is = grind (arith, each x, any-implies p q each xs)

-- what passes two tests passes one
pub any-weaker : {X : Type 0} (p q : X → Bool) (xs : List X) → list_any (λ x. p x && q x) xs ≡ true → list_any q xs ≡ true
any-weaker p q xs is = any-implies (λ x. p x && q x) q (λ x both. (and_parts (p x) (q x) both).1) xs is
