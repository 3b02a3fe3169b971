-- Facts of truth values, options, results and lists.
use Rattle.std.proofs.Common.{if◌then◌else◌, nat_eq, ◌&&◌, ◌||◌, ℕ, suc, ◌≤◌, ◌≡◌, Bool, true, false, List, [], ◌∷◌, ◌++◌, map, Option, Some, None, refl, ap, arith}
use Rattle.std.specs.Prelude.{Result, Ok, Err, IsSomeAnd, OnErr, OnOk, option_and_then, option_map}
use Rattle.std.proofs.lemmas.Bool as bool
use Rattle.std.proofs.lemmas.Bool.Decides.{nat_tests}

pub if-true : {X : Type 0} (b : Bool) (x y : X) → b ≡ true → (if b then x else y) ≡ x
if-true b x y e = rw e

pub if-false : {X : Type 0} (b : Bool) (x y : X) → b ≡ false → (if b then x else y) ≡ y
if-false b x y e = rw e

pub and-false : (b c : Bool) → b ≡ false → (b && c) ≡ false
and-false b c e = rw e

pub or-right : (b c : Bool) → c ≡ true → (b || c) ≡ true
or-right = bool.or_right

pub untrue : (b : Bool) → (b ≡ true → ⊥) → b ≡ false
untrue = bool.false_from_ne_true

pub other-number : (b : Bool) (n k : ℕ) → k ≤ n → (b && nat_eq (suc n) k) ≡ false
other-number b n k le = grind (arith, nat_tests)

pub own-number : (b : Bool) (c : ℕ) → b ≡ true → (b && nat_eq c c) ≡ true
own-number b c e = bool.and_from b (nat_eq c c) e (bool.eq-eqb c c refl)

pub map-map : {X Y Z : Type 0} (f : Y → Z) (g : X → Y) (xs : List X) → map f (map g xs) ≡ map (λ x. f (g x)) xs
map-map f g [] = refl
map-map f g (x ∷ xs) = ap (λ l. f (g x) ∷ l) (map-map f g xs)

pub map-append : {X Y : Type 0} (f : X → Y) (xs ys : List X) → map f (xs ++ ys) ≡ map f xs ++ map f ys
map-append f [] ys = refl
map-append f (x ∷ xs) ys = ap (λ l. f x ∷ l) (map-append f xs ys)

pub some-and : {X : Type 0} (P : X → Type 0) (o : Option X) (x : X) → o ≡ Some x → IsSomeAnd o P → P x
some-and P o x e a = rw e at a

pub some-mapped : {X Y : Type 0} (f : X → Y) (o : Option X) (y : Y) → option_map f o ≡ Some y → (x : X) × (o ≡ Some x) × (f x ≡ y)
some-mapped f None y e = absurd (cc)
some-mapped f (Some x) y e = (x, refl, cc)

pub some-then : {X Y : Type 0} (f : X → Option Y) (o : Option X) (y : Y) → option_and_then f o ≡ Some y → (x : X) × (o ≡ Some x) × (f x ≡ Some y)
some-then f None y e = absurd (cc)
some-then f (Some x) y e = (x, refl, e)

pub on-ok : {T E P Q : Type 0} (r : Result T E) → OnOk r P → (P → Q) → OnOk r Q
on-ok (Ok x) p f = f p
on-ok (Err e) p f = tt

pub on-err : {T E P Q : Type 0} (r : Result T E) → OnErr r P → (P → Q) → OnErr r Q
on-err (Ok x) p f = tt
on-err (Err e) p f = f p
