-- Membership in lists that are mapped and filtered, and elements at a place.
use Rattle.std.proofs.Common.{ℕ, zero, suc, ◌≡◌, ◌<◌, ◌≤◌, ◌⊎◌, cond, Bool, true, false, List, [], ◌∷◌, length, map, get_or, Some, None, inl, inr, refl, sym, ap, ◌∙◌, arith, nat_lt}
use Rattle.std.specs.Prelude.{position, slice_get, Contains}
use Rattle.std.specs.List.{filter, position_or_len, remove}
use Rattle.std.proofs.lemmas.Bool.{cases_Bool, cases_lt, lt-ltb, ltb-true}
use Rattle.std.proofs.lemmas.List.Quantifiers.{position-Some}
use Rattle.std.proofs.lemmas.List.Sums.{fails_before_first}
use Rattle.std.proofs.lemmas.Option.{get_or_from_slice_get}

pub Contains-cons : {X : Type 0} (head x : X) (rest : List X) → Contains rest x → Contains (head ∷ rest) x
Contains-cons head x rest p = (suc p.0, omega (arith, p.1), p.2)

pub Contains-cons_cases : {X : Type 0} (head x : X) (rest : List X) → Contains (head ∷ rest) x → (head ≡ x) ⊎ Contains rest x
Contains-cons_cases {X} head x rest p = by_index p.0 p.1 p.2
  where
    by_index : (k : ℕ) → k < length (head ∷ rest) → get_or (head ∷ rest) k x ≡ x → (head ≡ x) ⊎ Contains rest x
    by_index zero below is = inl is
    by_index (suc k) below is = inr (k, omega (arith, below), is)

pub Contains-get : {X : Type 0} (xs : List X) (i : ℕ) (x : X) → slice_get xs i ≡ Some x → Contains xs x
Contains-get [] i x is = absurd cc
Contains-get (y ∷ xs) zero x is = (0, omega arith, cc)
Contains-get (y ∷ xs) (suc i) x is = Contains-cons y x xs (Contains-get xs i x is)

pub get-within : {X : Type 0} (xs : List X) (i : ℕ) (x : X) → slice_get xs i ≡ Some x → i < length xs
get-within [] i x is = absurd cc
get-within (y ∷ xs) zero x is = omega arith
get-within (y ∷ xs) (suc i) x is = omega (arith, get-within xs i x is)

pub Contains-map : {X Y : Type 0} (f : X → Y) (xs : List X) (x : X) → Contains xs x → Contains (map f xs) (f x)
Contains-map f [] x there = absurd (omega (arith, there.1))
Contains-map f (y ∷ xs) x there = elim (Contains-cons_cases y x xs there) [
  | inl same ↦ (0, omega arith, ap f same)
  | inr behind ↦ Contains-cons (f y) (f x) (map f xs) (Contains-map f xs x behind)
]

pub Contains-map_from : {X Y : Type 0} (f : X → Y) (xs : List X) (y : Y) → Contains (map f xs) y → (x : X) × Contains xs x × (f x ≡ y)
Contains-map_from f [] y there = absurd (omega (arith, there.1))
Contains-map_from f (x ∷ xs) y there = elim (Contains-cons_cases (f x) y (map f xs) there) [
  | inl same ↦ (x, (0, omega arith, refl), same)
  | inr behind ↦ let found = Contains-map_from f xs y behind in (found.0, Contains-cons x found.0 xs found.1, found.2)
]

pub Contains-filter : {X : Type 0} (p : X → Bool) (xs : List X) (x : X) → Contains xs x → p x ≡ true → Contains (filter p xs) x
Contains-filter p [] x there passes = absurd (omega (arith, there.1))
Contains-filter {X} p (y ∷ xs) x there passes = elim (Contains-cons_cases y x xs there) [
  | inl same ↦ let here : p y ≡ true = ap p same ∙ passes in rw here (0, omega arith, same)
  | inr behind ↦ at (p y) (Contains-filter p xs x behind passes)
]
  where
    at : (b : Bool) → Contains (filter p xs) x → Contains (cond b (y ∷ filter p xs) (filter p xs)) x
    at true rest = Contains-cons y x (filter p xs) rest
    at false rest = rest

pub Contains-filter_from : {X : Type 0} (p : X → Bool) (xs : List X) (x : X) → Contains (filter p xs) x → Contains xs x × (p x ≡ true)
Contains-filter_from p [] x there = absurd (omega (arith, there.1))
Contains-filter_from {X} p (y ∷ xs) x there = at (p y) refl there (Contains-filter_from p xs x)
  where
    at : (b : Bool) → p y ≡ b → Contains (cond b (y ∷ filter p xs) (filter p xs)) x → (Contains (filter p xs) x → Contains xs x × (p x ≡ true))
        → Contains (y ∷ xs) x × (p x ≡ true)
    at true is inside rest = elim (Contains-cons_cases y x (filter p xs) inside) [
      | inl same ↦ ((0, omega arith, same), ap p (sym same) ∙ is)
      | inr behind ↦ (Contains-cons y x xs (rest behind).0, (rest behind).1)
    ]
    at false is inside rest = (Contains-cons y x xs (rest inside).0, (rest inside).1)

pub remove-map : {X Y : Type 0} (f : X → Y) (xs : List X) (i : ℕ) → map f (remove xs i) ≡ remove (map f xs) i
remove-map f [] zero = refl
remove-map f [] (suc i) = refl
remove-map f (x ∷ xs) zero = refl
remove-map f (x ∷ xs) (suc i) = ap (λ l. f x ∷ l) (remove-map f xs i)

-- what stands at the place that a search gives
pub placed : {X : Type 0} (p : X → Bool) (xs : List X) (i : ℕ) (x : X) → position p xs ≡ Some i → slice_get xs i ≡ Some x → p x ≡ true
placed p xs i x found there = ap p (sym (get_or_from_slice_get xs i x x there)) ∙ (position-Some p xs i x found).1

pub placed-within : {X : Type 0} (p : X → Bool) (xs : List X) (i : ℕ) (x : X) → position p xs ≡ Some i → i < length xs
placed-within p xs i x found = (position-Some p xs i x found).0

-- nothing passes where a search gives no place
pub not-placed : {X : Type 0} (p : X → Bool) (xs : List X) (x : X) → position p xs ≡ None → Contains xs x → p x ≡ false
not-placed p xs x missing there = elim (cases_lt (position_or_len p xs) (length xs)) [
  | inl found ↦ let yes_found = lt-ltb (position_or_len p xs) (length xs) found in let impossible = rw yes_found at missing in absurd cc
  | inr past ↦ ap p (sym there.2) ∙ fails_before_first p xs there.0 x (omega (arith, past, there.1))
]

pub placed-inside : {X : Type 0} (p : X → Bool) (xs : List X) (i : ℕ) → position p xs ≡ Some i → i < length xs
placed-inside p xs i found = elim (cases_Bool (nat_lt (position_or_len p xs) (length xs))) [
  | inl below ↦
      let is : Some (position_or_len p xs) ≡ Some i = rw below at found in
      let same : position_or_len p xs ≡ i = cc in
      omega (arith, same, ltb-true (position_or_len p xs) (length xs) below)
  | inr past ↦ let impossible = rw past at found in absurd cc
]

pub get-past : {X : Type 0} (xs : List X) (i : ℕ) → slice_get xs i ≡ None → length xs ≤ i
get-past [] i is = omega arith
get-past (x ∷ xs) zero is = absurd cc
get-past (x ∷ xs) (suc i) is = omega (arith, get-past xs i is)

pub get-there : {X : Type 0} (xs : List X) (i : ℕ) → i < length xs → (x : X) × (slice_get xs i ≡ Some x)
get-there [] i inside = absurd (omega (arith, inside))
get-there (x ∷ xs) zero inside = (x, refl)
get-there (x ∷ xs) (suc i) inside = get-there xs i (omega (arith, inside))
