-- What two disks tell together.
use Rattle.std.proofs.Common.{◌≡◌, Option, Some, None, IfSome, is_some, refl, option_map}
use Rattle.aoe_disk.specs.State.{BothTell}
use Rattle.aoe_mirror.specs.Sides.{both}

pub told_same : {A : Type 0} (x : Option A) → BothTell (λ a b. b ≡ a) x x
told_same None = tt
told_same (Some a) = refl

pub told_mono : {A B : Type 0} (R S : A → B → Type 0) (x : Option A) (y : Option B) → BothTell R x y → ((a : A) (b : B) → R a b → S a b) → BothTell S x y
told_mono R S None None t f = tt
told_mono R S None (Some b) t f = absurd t
told_mono R S (Some a) None t f = absurd t
told_mono R S (Some a) (Some b) t f = f a b t

pub told_both : {A : Type 0} (R S : A → A → Type 0) (x x' y y' : Option A) → BothTell R x x' → BothTell S y y'
    → BothTell (λ (p : A × A) (q : A × A). R p.0 q.0 × S p.1 q.1) (both x y) (both x' y')
told_both R S None None None None t u = tt
told_both R S None None None (Some d) t u = absurd u
told_both R S None None (Some c) None t u = absurd u
told_both R S None None (Some c) (Some d) t u = tt
told_both R S None (Some b) y y' t u = absurd t
told_both R S (Some a) None y y' t u = absurd t
told_both R S (Some a) (Some b) None None t u = tt
told_both R S (Some a) (Some b) None (Some d) t u = absurd u
told_both R S (Some a) (Some b) (Some c) None t u = absurd u
told_both R S (Some a) (Some b) (Some c) (Some d) t u = (t, u)

pub told_map : {A B : Type 0} (R : A → A → Type 0) (S : B → B → Type 0) (H : A → Type 0) (f g : A → B) (x y : Option A) → BothTell R x y → IfSome x H
    → ((a b : A) → H a → R a b → S (f a) (g b)) → BothTell S (option_map f x) (option_map g y)
told_map R S H f g None None t h k = tt
told_map R S H f g None (Some b) t h k = absurd t
told_map R S H f g (Some a) None t h k = absurd t
told_map R S H f g (Some a) (Some b) t h k = k a b h t

pub told_if : {A B : Type 0} (R : A → B → Type 0) (H : A → Type 0) (K : B → Type 0) (x : Option A) (y : Option B) → BothTell R x y → IfSome x H
    → ((a : A) (b : B) → H a → R a b → K b) → IfSome y K
told_if R H K None None t h k = tt
told_if R H K None (Some b) t h k = absurd t
told_if R H K (Some a) None t h k = tt
told_if R H K (Some a) (Some b) t h k = k a b h t

pub told_tells : {A B : Type 0} (R : A → B → Type 0) (x : Option A) (y : Option B) → BothTell R x y → is_some y ≡ is_some x
told_tells R None None t = refl
told_tells R None (Some b) t = absurd t
told_tells R (Some a) None t = absurd t
told_tells R (Some a) (Some b) t = refl

-- one relation after another
pub told_then : {A : Type 0} (R S T : A → A → Type 0) (x y z : Option A) → BothTell R x y → BothTell S y z → ((a b c : A) → R a b → S b c → T a c)
    → BothTell T x z
told_then R S T None None None t u k = tt
told_then R S T None None (Some c) t u k = absurd u
told_then R S T None (Some b) z t u k = absurd t
told_then R S T (Some a) None z t u k = absurd t
told_then R S T (Some a) (Some b) None t u k = absurd u
told_then R S T (Some a) (Some b) (Some c) t u k = k a b c t u

pub both_if : {A : Type 0} (H : A → Type 0) (K : A → Type 0) (x y : Option A) → IfSome x H → IfSome y K → IfSome (both x y) (λ (p : A × A). H p.0 × K p.1)
both_if H K None None h k = tt
both_if H K None (Some b) h k = tt
both_if H K (Some a) None h k = tt
both_if H K (Some a) (Some b) h k = (h, k)

pub and_if : {A : Type 0} (H K : A → Type 0) (x : Option A) → IfSome x H → IfSome x K → IfSome x (λ a. H a × K a)
and_if H K None h k = tt
and_if H K (Some a) h k = (h, k)

pub if_mono : {A : Type 0} (H K : A → Type 0) (x : Option A) → IfSome x H → ((a : A) → H a → K a) → IfSome x K
if_mono H K None h f = tt
if_mono H K (Some a) h f = f a h

-- the sides in the other order
pub both_swap : {A : Type 0} (x y : Option A) → both y x ≡ option_map (λ (p : A × A). (p.1, p.0)) (both x y)
both_swap None None = refl
both_swap None (Some b) = refl
both_swap (Some a) None = refl
both_swap (Some a) (Some b) = refl

pub told_with : {A B : Type 0} (R S : A → B → Type 0) (H : A → Type 0) (x : Option A) (y : Option B) → BothTell R x y → IfSome x H
    → ((a : A) (b : B) → H a → R a b → S a b) → BothTell S x y
told_with R S H None None t h f = tt
told_with R S H None (Some b) t h f = absurd t
told_with R S H (Some a) None t h f = absurd t
told_with R S H (Some a) (Some b) t h f = f a b h t

pub map_if : {A B : Type 0} (H : A → Type 0) (K : B → Type 0) (f : A → B) (x : Option A) → IfSome x H → ((a : A) → H a → K (f a)) → IfSome (option_map f x) K
map_if H K f None h k = tt
map_if H K f (Some a) h k = k a h

-- with what is known of both ends
pub told_ends : {A B : Type 0} (R S : A → B → Type 0) (H : A → Type 0) (K : B → Type 0) (x : Option A) (y : Option B) → BothTell R x y → IfSome x H → IfSome y K
    → ((a : A) (b : B) → H a → K b → R a b → S a b) → BothTell S x y
told_ends R S H K None None t h k f = tt
told_ends R S H K None (Some b) t h k f = absurd t
told_ends R S H K (Some a) None t h k f = absurd t
told_ends R S H K (Some a) (Some b) t h k f = f a b h k t

pub if_any : {A : Type 0} (x : Option A) → IfSome x (λ _. Unit {0})
if_any None = tt
if_any (Some a) = tt

pub told_to : {A B : Type 0} (R : A → B → Type 0) (K : B → Type 0) (x : Option A) (y : Option B) → BothTell R x y → ((a : A) (b : B) → R a b → K b) → IfSome y K
told_to R K None None t f = tt
told_to R K None (Some b) t f = absurd t
told_to R K (Some a) None t f = tt
told_to R K (Some a) (Some b) t f = f a b t
