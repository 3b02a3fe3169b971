-- Lists by their places: what is found in them, and what their filters and pieces keep.
use Rattle.std.proofs.Common.{ℕ, zero, suc, ◌<◌, ◌≤◌, ◌+◌, ◌≡◌, ◌≢◌, ◌∙◌, ◌⊎◌, inl, inr, Bool, true, false, List, [], ◌∷◌, ◌++◌, length, take, drop, Option, Some, None, refl, sym, ap, arith, Contains, count_by}
use Rattle.std.specs.Prelude.{slice_get, position, is_some}
use Rattle.std.specs.List.{cons_option, filter, filter_map, find, flat_map, list_any, position_or_len}
use Rattle.std.specs.Option.{option_to_list}
use Rattle.std.proofs.lemmas.Bool.{both_ways, cases_Bool, cases_lt, cases_order, false_from_ne_true, lt-ltb, or_left, or_parts}
use Rattle.std.proofs.lemmas.List.{append-nil, take-append-drop}
use Rattle.std.proofs.lemmas.List.Elements.{Contains-append_cases, Contains-append_left, Contains-append_right, filter-append}
use Rattle.std.proofs.lemmas.List.Folds.{list_any-append, list_any_at}
use Rattle.std.proofs.lemmas.List.Sums.{fails_before_first}
use Rattle.std.proofs.lemmas.Option.{get_or_from_slice_get, none-some, same_Some, slice_get-get_or, slice_get_within}
use Rattle.aoe_base.proofs.CountLemmas.{count-cons, count-yes}

-- ---- places

-- an element of a list with its place
pub record Place {X : Type 0} (xs : List X) (x : X) : Type 0 where
  pub at : ℕ
  pub there : slice_get xs at ≡ Some x

pub place-of : {X : Type 0} (xs : List X) (x : X) → Contains xs x → Place xs x
place-of xs x c = record { at = c.0; there = slice_get-get_or xs c.0 x c.1 ∙ ap Some c.2 }

pub contains-at : {X : Type 0} (xs : List X) (x : X) → Place xs x → Contains xs x
contains-at xs x p = (p.at, slice_get_within xs p.at x p.there, get_or_from_slice_get xs p.at x x p.there)

-- an element of which P holds, with its place
pub record Has {X : Type 0} (P : X → Type 0) (xs : List X) : Type 0 where
  pub at : ℕ
  pub x : X
  pub there : slice_get xs at ≡ Some x
  pub holds : P x

later : {X : Type 0} {P : X → Type 0} {xs : List X} {y : X} → Has P xs → Has P (y ∷ xs)
later h = record { at = suc h.at; x = h.x; there = h.there; holds = h.holds }

-- of two places one is before the other
pub in-order : {P : Type 0} (i k : ℕ) → i ≢ k → (i < k → P) → (k < i → P) → P
in-order i k ne before behind = elim (cases_order i k) [
  | inl same ↦ absurd (ne same)
  | inr (inl lt) ↦ before lt
  | inr (inr lt) ↦ behind lt
]

-- ---- tests

pub any-passes : {X : Type 0} (p : X → Bool) (xs : List X) → list_any p xs ≡ true → Has (λ x. p x ≡ true) xs
any-passes p [] e = absurd cc
any-passes p (x ∷ xs) e = elim (cases_Bool (p x)) [
  | inl is ↦ record { at = 0; x = x; there = refl; holds = is }
  | inr is ↦ later (any-passes p xs (rw is at e))
]

pub any-from : {X : Type 0} (p : X → Bool) (xs : List X) (k : ℕ) (x : X) → slice_get xs k ≡ Some x → p x ≡ true → list_any p xs ≡ true
any-from p xs k x e passes = list_any_at p xs k x (slice_get_within xs k x e) (rw (get_or_from_slice_get xs k x x e) passes)

pub any-taken : {X : Type 0} (p : X → Bool) (xs : List X) (k : ℕ) → list_any p (take k xs) ≡ true → list_any p xs ≡ true
any-taken p xs k any = ap (list_any p) (sym (take-append-drop k xs)) ∙ list_any-append p (take k xs) (drop k xs) ∙ or_left _ _ any

pub none-passes : {X : Type 0} (p : X → Bool) (xs : List X) (k : ℕ) (x : X) → list_any p xs ≡ false → slice_get xs k ≡ Some x → p x ≡ false
none-passes p xs k x none e = false_from_ne_true _ (λ passes. both_ways _ none (any-from p xs k x e passes))

-- of those before a place none passes
pub none-before : {X : Type 0} (p : X → Bool) (xs : List X) (i k : ℕ) (x : X) → i < k → slice_get xs i ≡ Some x → list_any p (take k xs) ≡ false → p x ≡ false
none-before p (y ∷ xs) zero (suc k) x lt e none = rw (same_Some y x e) at (or_parts (p y) _ none).0
none-before p (y ∷ xs) (suc i) (suc k) x lt e none = none-before p xs i k x (omega arith) e (or_parts (p y) _ none).1
none-before p [] i k x lt e none = absurd (none-some x e)
none-before p _ i zero x lt e none = absurd (omega arith)

pub position-some : {X : Type 0} (p : X → Bool) (xs : List X) (k : ℕ) (x : X) → slice_get xs k ≡ Some x → p x ≡ true → is_some (position p xs) ≡ true
position-some p xs k x e passes = elim (cases_lt (position_or_len p xs) (length xs)) [
  | inl lt ↦ rw (lt-ltb _ _ lt)
  | inr past ↦
      let within = slice_get_within xs k x e in
      let fails = rw (get_or_from_slice_get xs k x x e) at (fails_before_first p xs k x (omega arith)) in
      absurd (both_ways _ fails passes)
]

-- ---- the first that passes a test

pub find-first : {X : Type 0} (p : X → Bool) (xs : List X) (k : ℕ) (x : X) → slice_get xs k ≡ Some x → p x ≡ true
    → ((i : ℕ) (a : X) → i < k → slice_get xs i ≡ Some a → p a ≡ false) → find p xs ≡ Some x
find-first p [] k x e passes before = absurd (none-some x e)
find-first p (y ∷ xs) zero x e passes before = let is = same_Some y x e in rw (is, passes)
find-first p (y ∷ xs) (suc k) x e passes before =
    rw (before 0 y (omega arith) refl) (find-first p xs k x e passes (λ i a lt s. before (suc i) a (omega arith) s))

-- ---- each two, the earlier first

abbrev pub Ordered : {X : Type 0} → (X → X → Type 0) → List X → Type 0
Ordered {X} R xs = (i j : ℕ) (a b : X) → i < j → slice_get xs i ≡ Some a → slice_get xs j ≡ Some b → R a b

-- by a test that tells no two apart but the same
pub find-by : {X : Type 0} (E : X → X → Bool) (xs : List X) (k : ℕ) (x : X) → Ordered (λ a b. E a b ≡ false) xs → slice_get xs k ≡ Some x → E x x ≡ true
    → find (λ a. E a x) xs ≡ Some x
find-by E xs k x ordered there same = find-first (λ a. E a x) xs k x there same (λ i a lt s. ordered i k a x lt s there)

-- and by one that is the same both ways
pub apart-by : {X : Type 0} (E : X → X → Bool) (xs : List X) → ((a b : X) → E a b ≡ false → E b a ≡ false) → Ordered (λ a b. E a b ≡ false) xs
    → (i j : ℕ) (a b : X) → slice_get xs i ≡ Some a → slice_get xs j ≡ Some b → i ≢ j → E a b ≡ false
apart-by E xs turn ordered i j a b p q ne = in-order i j ne (λ lt. ordered i j a b lt p q) (λ lt. turn b a (ordered j i b a lt q p))

-- ---- pieces

at-left : {X : Type 0} {xs : List X} {x : X} (ys : List X) → Place xs x → Place (xs ++ ys) x
at-left {xs = xs} {x = x} ys p = place-of _ x (Contains-append_left xs ys x (contains-at xs x p))

at-right : {X : Type 0} {ys : List X} {x : X} (xs : List X) → Place ys x → Place (xs ++ ys) x
at-right {ys = ys} {x = x} xs p = place-of _ x (Contains-append_right xs ys x (contains-at ys x p))

joined-at : {X : Type 0} (xs ys : List X) {x : X} → Place (xs ++ ys) x → Place xs x ⊎ Place ys x
joined-at xs ys {x} p = elim (Contains-append_cases xs ys x (contains-at (xs ++ ys) x p)) [
  | inl left ↦ inl (place-of xs x left)
  | inr right ↦ inr (place-of ys x right)
]

ordered-joined : {X : Type 0} (R : X → X → Type 0) (xs ys : List X) → Ordered R xs → Ordered R ys → ((a b : X) → Place xs a → Place ys b → R a b)
    → Ordered R (xs ++ ys)
ordered-joined R [] ys o u across i j a b lt p q = u i j a b lt p q
ordered-joined R (x ∷ xs) ys o u across i zero a b lt p q = absurd (omega arith)
ordered-joined R (x ∷ xs) ys o u across zero (suc j) a b lt p q = elim (joined-at xs ys (record { at = j; there = q })) [
  | inl left ↦ o 0 (suc left.at) a b (omega arith) p left.there
  | inr right ↦ across a b (record { at = 0; there = p }) right
]
ordered-joined R (x ∷ xs) ys o u across (suc i) (suc j) a b lt p q =
    ordered-joined R xs ys (λ m n c d v w z. o (suc m) (suc n) c d (omega arith) w z) u (λ c d s t. across c d (at-right (x ∷ []) s) t)
    i j a b (omega arith) p q

-- where an element of the pieces comes from
pub from-pieces : {X Y : Type 0} (f : X → List Y) (xs : List X) {y : Y} → Place (flat_map f xs) y → Has (λ x. Place (f x) y) xs
from-pieces f [] {y} p = absurd (none-some y p.there)
from-pieces f (x ∷ xs) p = elim (joined-at (f x) (flat_map f xs) p) [
  | inl here ↦ record { at = 0; x = x; there = refl; holds = here }
  | inr behind ↦ later (from-pieces f xs behind)
]

pub pieces-at : {X Y : Type 0} (f : X → List Y) (xs : List X) (k : ℕ) (x : X) {y : Y} → slice_get xs k ≡ Some x → Place (f x) y → Place (flat_map f xs) y
pieces-at f [] k x e p = absurd (none-some x e)
pieces-at f (z ∷ xs) zero x e p = rw (same_Some z x e) (at-left (flat_map f xs) p)
pieces-at f (z ∷ xs) (suc k) x e p = at-right (f z) (pieces-at f xs k x e p)

pub ordered-pieces : {X Y : Type 0} (R : Y → Y → Type 0) (f : X → List Y) (xs : List X) → ((k : ℕ) (x : X) → slice_get xs k ≡ Some x → Ordered R (f x))
    → Ordered (λ a b. (c d : Y) → Place (f a) c → Place (f b) d → R c d) xs → Ordered R (flat_map f xs)
ordered-pieces R f [] each o = λ i j a b lt p q. absurd (none-some a p)
ordered-pieces R f (x ∷ xs) each o =
    ordered-joined R (f x) (flat_map f xs) (each 0 x refl)
    (ordered-pieces R f xs (λ k y e. each (suc k) y e) (λ m n c d v w z. o (suc m) (suc n) c d (omega arith) w z))
    (λ a b s t. let p = from-pieces f xs t in o 0 (suc p.at) x p.x (omega arith) refl p.there a b s p.holds)

-- ---- a list that is mapped and filtered is one of pieces with one element or none

abbrev kept : {X Y : Type 0} → (X → Option Y) → X → List Y
kept h x = option_to_list (h x)

kept-pieces : {X Y : Type 0} (h : X → Option Y) (xs : List X) → filter_map h xs ≡ flat_map (kept h) xs
kept-pieces h [] = refl
kept-pieces {Y = Y} h (x ∷ xs) = rw (kept-pieces h xs) (by (h x))
  where
    by : (o : Option Y) → cons_option o (flat_map (kept h) xs) ≡ option_to_list o ++ flat_map (kept h) xs
    by None = refl
    by (Some y) = refl

kept-is : {Y : Type 0} (o : Option Y) (i : ℕ) (y : Y) → slice_get (option_to_list o) i ≡ Some y → (o ≡ Some y) × (i ≡ 0)
kept-is (Some z) zero y e = (e, refl)
kept-is None i y e = absurd (none-some y e)
kept-is (Some z) (suc i) y e = absurd (none-some y e)

pub from-filtered : {X Y : Type 0} (h : X → Option Y) (xs : List X) (i : ℕ) (y : Y) → slice_get (filter_map h xs) i ≡ Some y → Has (λ x. h x ≡ Some y) xs
from-filtered h xs i y e =
    let p = from-pieces (kept h) xs (record { at = i; there = rw (kept-pieces h xs) at e }) in
    record { at = p.at; x = p.x; there = p.there; holds = (kept-is (h p.x) p.holds.at y p.holds.there).0 }

pub filtered-at : {X Y : Type 0} (h : X → Option Y) (xs : List X) (k : ℕ) (x : X) (y : Y) → slice_get xs k ≡ Some x → h x ≡ Some y → Place (filter_map h xs) y
filtered-at h xs k x y e gives = rw (kept-pieces h xs) (pieces-at (kept h) xs k x e (rw gives (record { at = 0; there = refl })))

pub ordered-filtered : {X Y : Type 0} (R : Y → Y → Type 0) (h : X → Option Y) (xs : List X)
    → Ordered (λ a b. (c d : Y) → h a ≡ Some c → h b ≡ Some d → R c d) xs → Ordered R (filter_map h xs)
ordered-filtered R h xs o = rw (kept-pieces h xs) (ordered-pieces R (kept h) xs
    (λ k x there i j a b lt p q. absurd (omega (arith, (kept-is (h x) j b q).1)))
    (λ i j a b lt p q c d s t. o i j a b lt p q c d (kept-is (h a) s.at c s.there).0 (kept-is (h b) t.at d t.there).0))

-- ---- a filter that keeps one piece

filter-all : {X : Type 0} (p : X → Bool) (xs : List X) → ((x : X) → Place xs x → p x ≡ true) → filter p xs ≡ xs
filter-all p [] all = refl
filter-all p (x ∷ xs) all = rw (all x (record { at = 0; there = refl })) (ap (λ ys. x ∷ ys) (filter-all p xs (λ y e. all y (at-right (x ∷ []) e))))

filter-none : {X : Type 0} (p : X → Bool) (xs : List X) → ((x : X) → Place xs x → p x ≡ false) → filter p xs ≡ []
filter-none p [] none = refl
filter-none p (x ∷ xs) none = rw (none x (record { at = 0; there = refl })) (filter-none p xs (λ y e. none y (at-right (x ∷ []) e)))

pub filter-piece : {X Y : Type 0} (p : Y → Bool) (f : X → List Y) (xs : List X) (k : ℕ) (x : X) → slice_get xs k ≡ Some x
    → ((y : Y) → Place (f x) y → p y ≡ true)
    → ((i : ℕ) (a : X) (y : Y) → i ≢ k → slice_get xs i ≡ Some a → Place (f a) y → p y ≡ false) → filter p (flat_map f xs) ≡ f x
filter-piece p f [] k x e all none = absurd (none-some x e)
filter-piece p f (z ∷ xs) zero x e all none =
    let rest = filter-none p (flat_map f xs) (λ y s. let m = from-pieces f xs s in none (suc m.at) m.x y (λ w. absurd (omega arith)) m.there m.holds) in
    rw (same_Some z x e, filter-append p (f x) (flat_map f xs), filter-all p (f x) all, rest) (append-nil (f x))
filter-piece p f (z ∷ xs) (suc k) x e all none =
    rw (filter-append p (f z) (flat_map f xs), filter-none p (f z) (λ y s. none 0 z y (λ w. absurd (omega arith)) refl s))
    (filter-piece p f xs k x e all (λ i a y ne s t. none (suc i) a y (λ w. ne (omega arith)) s t))

-- ---- how many there are

none-or-some : {X : Type 0} (o : Option X) → (o ≡ None) ⊎ ((x : X) × (o ≡ Some x))
none-or-some None = inl refl
none-or-some (Some x) = inr (x, refl)

few-from : {X Y : Type 0} (h : X → Option Y) (p : X → Bool) (n : ℕ) (xs : List X) (m : ℕ) → m ≤ n
    → ((k : ℕ) (x : X) (y : Y) → slice_get xs k ≡ Some x → h x ≡ Some y → (p x ≡ true) × (m + count_by p (take k xs) < n)) → m + length (filter_map h xs) ≤ n
few-from h p n [] m le few = omega arith
few-from h p n (x ∷ xs) m le few = elim (none-or-some (h x)) [
  | inl none ↦ rw none (few-from h p n xs m le (λ k z y e g. let f = few (suc k) z y e g in (f.0, omega (arith, f.1, count-cons p x (take k xs)))))
  | inr (y, some) ↦
      let first = few 0 x y refl some in
      let rest = few-from h p n xs (suc m) (omega arith) (λ k z w e g.
      let f = few (suc k) z w e g in (f.0, omega (arith, f.1, count-yes p x (take k xs) first.0))) in
      rw some (omega arith)
]

-- a list has no more than n of a kind where each of them has fewer than n before it
pub few-filtered : {X Y : Type 0} (h : X → Option Y) (p : X → Bool) (n : ℕ) (xs : List X)
    → ((k : ℕ) (x : X) (y : Y) → slice_get xs k ≡ Some x → h x ≡ Some y → (p x ≡ true) × (count_by p (take k xs) < n)) → length (filter_map h xs) ≤ n
few-filtered h p n xs few = omega (arith, few-from h p n xs 0 (omega arith) (λ k x y e g. let f = few k x y e g in (f.0, omega (arith, f.1))))
