-- Lists of what lines declare, line by line, and lists that go along each other.
use Rattle.std.proofs.Common.{ℕ, zero, suc, ◌+◌, ◌≡◌, ◌∙◌, ◌≤◌, ◌⊎◌, inl, inr, Bool, true, false, ◌||◌, List, [], ◌∷◌, ◌++◌, length, take, drop, Option, Some, None, refl, sym, ap, arith, add-one, length-append, drop-cons}
use Rattle.std.specs.Prelude.{slice_get, map, slice_index_or, All}
use Rattle.std.specs.List.{cons_option, filter_map, find, list_any}
use Rattle.std.specs.Option.{option_to_list}
use Rattle.std.proofs.lemmas.List.{append-nil}
use Rattle.std.proofs.lemmas.List.Elements.{filter_map-append}
use Rattle.std.proofs.lemmas.Option.{get_or_from_slice_get, none-some, same_Some, slice_get-get_or, slice_get_within}
use Rattle.aoe_world.proofs.ListLemmas.{take-next}
use Rattle.aoe_world.specs.Build.{Along}

-- ---- what lines declare, one line more

one-of : {Y : Type 0} (o : Option Y) → cons_option o [] ≡ option_to_list o
one-of None = refl
one-of (Some y) = refl

pub grown : {X Y : Type 0} (h : X → Option Y) (xs : List X) (n : ℕ) (x : X) → slice_get xs n ≡ Some x
    → filter_map h (take (n + 1) xs) ≡ filter_map h (take n xs) ++ option_to_list (h x)
grown h xs n x at = rw (add-one n, take-next xs n x at, filter_map-append h (take n xs) (x ∷ [])) (ap (λ z. filter_map h (take n xs) ++ z) (one-of (h x)))

pub grown-none : {X Y : Type 0} (h : X → Option Y) (xs : List X) (n : ℕ) (x : X) → slice_get xs n ≡ Some x → h x ≡ None
    → filter_map h (take (n + 1) xs) ≡ filter_map h (take n xs)
grown-none h xs n x at none = rw (grown h xs n x at, none) (append-nil (filter_map h (take n xs)))

pub grown-some : {X Y : Type 0} (h : X → Option Y) (xs : List X) (n : ℕ) (x : X) (y : Y) → slice_get xs n ≡ Some x → h x ≡ Some y
    → filter_map h (take (n + 1) xs) ≡ filter_map h (take n xs) ++ (y ∷ [])
grown-some h xs n x y at some = rw (grown h xs n x at, some)

-- what a line declares stands behind what those before it declare
pub at-own : {X Y : Type 0} (h : X → Option Y) (xs : List X) (n : ℕ) (x : X) (y : Y) → slice_get xs n ≡ Some x → h x ≡ Some y
    → slice_get (filter_map h xs) (length (filter_map h (take n xs))) ≡ Some y
at-own h [] n x y at some = absurd (none-some x at)
at-own h (z ∷ xs) zero x y at some = rw (same_Some z x at, some)
at-own h (z ∷ xs) (suc n) x y at some = go (h z) (at-own h xs n x y at some)
  where
    go : (o : Option _) → slice_get (filter_map h xs) (length (filter_map h (take n xs))) ≡ Some y
        → slice_get (cons_option o (filter_map h xs)) (length (cons_option o (filter_map h (take n xs)))) ≡ Some y
    go None more = more
    go (Some w) more = more

pub early : {X Y : Type 0} (h : X → Option Y) (xs : List X) (n k : ℕ) (a : Y) → slice_get (filter_map h (take n xs)) k ≡ Some a
    → slice_get (filter_map h xs) k ≡ Some a
early h (z ∷ xs) (suc n) k a e = go (h z) k e (λ j f. early h xs n j a f)
  where
    go : (o : Option _) (k : ℕ) → slice_get (cons_option o (filter_map h (take n xs))) k ≡ Some a
        → ((j : ℕ) → slice_get (filter_map h (take n xs)) j ≡ Some a → slice_get (filter_map h xs) j ≡ Some a)
        → slice_get (cons_option o (filter_map h xs)) k ≡ Some a
    go None k e more = more k e
    go (Some w) zero e more = e
    go (Some w) (suc k) e more = more k e
early h [] (suc n) k a e = absurd (none-some a e)
early h _ _ k a e = absurd (none-some a e)

pub few-given : {X Y : Type 0} (h : X → Option Y) (xs : List X) (n : ℕ) → length (filter_map h (take n xs)) ≤ length xs
few-given h (z ∷ xs) (suc n) = go (h z) (few-given h xs n)
  where
    go : (o : Option _) → length (filter_map h (take n xs)) ≤ length xs → length (cons_option o (filter_map h (take n xs))) ≤ suc (length xs)
    go None few = omega (arith, few)
    go (Some w) few = omega (arith, few)
few-given h [] (suc n) = omega arith
few-given h _ _ = omega arith

-- ---- the first that passes, from a place on

drop-next : {X : Type 0} (xs : List X) (n : ℕ) (x : X) → slice_get xs n ≡ Some x → drop n xs ≡ x ∷ drop (suc n) xs
drop-next xs n x at = drop-cons xs n x (slice_get_within xs n x at) ∙ ap (λ y. y ∷ drop (suc n) xs) (get_or_from_slice_get xs n x x at)

pub find-past : {X : Type 0} (p : X → Bool) (xs : List X) (n : ℕ) (x : X) → slice_get xs n ≡ Some x → p x ≡ false → find p (drop n xs) ≡ find p xs
    → find p (drop (n + 1) xs) ≡ find p xs
find-past p xs n x at not so = rw (add-one n) (rw (drop-next xs n x at, not) at so)

pub find-here : {X : Type 0} (p : X → Bool) (xs : List X) (n : ℕ) (x : X) → slice_get xs n ≡ Some x → p x ≡ true → find p (drop n xs) ≡ find p xs
    → find p xs ≡ Some x
find-here p xs n x at is so = sym (rw (drop-next xs n x at, is) at so)

-- ---- tests

pub any-map : {X Y : Type 0} (f : X → Y) (p : Y → Bool) (xs : List X) → list_any (λ x. p (f x)) xs ≡ list_any p (map f xs)
any-map f p [] = refl
any-map f p (x ∷ xs) = ap (λ b. p (f x) || b) (any-map f p xs)

pub all-at : {X : Type 0} (P : X → Type 0) (xs : List X) → ((k : ℕ) (x : X) → slice_get xs k ≡ Some x → P x) → All P xs
all-at P xs each k d lt = each k (slice_index_or xs k d) (slice_get-get_or xs k d lt)

-- ---- along

-- an element of a list with one more behind it
last-or-before : {X : Type 0} (xs : List X) (x a : X) (i : ℕ) → slice_get (xs ++ (x ∷ [])) i ≡ Some a → (slice_get xs i ≡ Some a) ⊎ ((i ≡ length xs) × (x ≡ a))
last-or-before [] x a zero e = inr (refl, same_Some x a e)
last-or-before [] x a (suc i) e = absurd (none-some a e)
last-or-before (z ∷ xs) x a zero e = inl e
last-or-before (z ∷ xs) x a (suc i) e = elim (last-or-before xs x a i e) [
  | inl there ↦ inl there
  | inr last ↦ inr (ap suc last.0, last.1)
]

pub along-more : {X Y : Type 0} {R : X → Y → Type 0} {xs : List X} {ys : List Y} (x : X) (y : Y) → R x y → Along R xs ys
    → Along R (xs ++ (x ∷ [])) (ys ++ (y ∷ []))
along-more {R = R} {xs = xs} {ys = ys} x y r k = record {
  count = length-append ys (y ∷ []) ∙ ap (λ n. n + 1) k.count ∙ sym (length-append xs (x ∷ []));
  each = λ i a b e f. go i a b (last-or-before xs x a i e) (last-or-before ys y b i f);
}
  where
    go : (i : ℕ) (a : _) (b : _) → (slice_get xs i ≡ Some a) ⊎ ((i ≡ length xs) × (x ≡ a)) → (slice_get ys i ≡ Some b) ⊎ ((i ≡ length ys) × (y ≡ b)) → R a b
    go i a b (inl p) (inl q) = k.each i a b p q
    go i a b (inl p) (inr q) = absurd (omega (arith, slice_get_within xs i a p, q.0, k.count))
    go i a b (inr p) (inl q) = absurd (omega (arith, slice_get_within ys i b q, p.0, k.count))
    go i a b (inr p) (inr q) = rw (← p.1, ← q.1) r
