-- What a disk may tell, step by step.
use Rattle.std.proofs.Common.{◌≡◌, Option, Some, None, IfSome, is_some}
use Rattle.aoe_disk.specs.State.{BothTell}

pub both_map : {A B : Type 0} (R Q : A → B → Type 0) (a : Option A) (b : Option B) → ((x : A) (y : B) → R x y → Q x y) → BothTell R a b → BothTell Q a b
both_map R Q None None f h = tt
both_map R Q None (Some y) f h = h
both_map R Q (Some x) None f h = h
both_map R Q (Some x) (Some y) f h = f x y h

pub told_then : {A B : Type 0} (P : A → Type 0) (R : A → B → Type 0) (Q : B → Type 0) (a : Option A) (b : Option B) → ((x : A) (y : B) → P x → R x y → Q y)
    → IfSome a P → BothTell R a b → IfSome b Q
told_then P R Q a None f p h = tt
told_then P R Q None (Some y) f p h = absurd h
told_then P R Q (Some x) (Some y) f p h = f x y p h

pub told_both : {A B : Type 0} (P : A → Type 0) (R : A → B → Type 0) (Q : A → B → Type 0) (a : Option A) (b : Option B)
    → ((x : A) (y : B) → P x → R x y → Q x y) → IfSome a P → BothTell R a b → BothTell Q a b
told_both P R Q None None f p h = tt
told_both P R Q None (Some y) f p h = h
told_both P R Q (Some x) None f p h = h
told_both P R Q (Some x) (Some y) f p h = f x y p h

-- one call more
pub both_then : {A B C : Type 0} (P : A → B → Type 0) (R : B → C → Type 0) (Q : A → C → Type 0) (a : Option A) (b : Option B) (c : Option C)
    → ((x : A) (y : B) (z : C) → P x y → R y z → Q x z) → BothTell P a b → BothTell R b c → BothTell Q a c
both_then P R Q None None None f p h = tt
both_then P R Q None None (Some z) f p h = h
both_then P R Q None (Some y) c f p h = absurd p
both_then P R Q (Some x) None c f p h = absurd p
both_then P R Q (Some x) (Some y) None f p h = h
both_then P R Q (Some x) (Some y) (Some z) f p h = f x y z p h

pub told_link : {A B : Type 0} (P : B → Type 0) (Q : A → B → Type 0) (a : Option A) (b : Option B) → is_some b ≡ is_some a → ((x : A) (y : B) → P y → Q x y)
    → IfSome b P → BothTell Q a b
told_link P Q None None e f h = tt
told_link P Q None (Some y) e f h = absurd cc
told_link P Q (Some x) None e f h = absurd cc
told_link P Q (Some x) (Some y) e f h = f x y h

pub told_last : {A B : Type 0} (R : A → B → Type 0) (P : B → Type 0) (a : Option A) (b : Option B) → ((x : A) (y : B) → R x y → P y) → BothTell R a b
    → IfSome b P
told_last R P a None f h = tt
told_last R P None (Some y) f h = absurd h
told_last R P (Some x) (Some y) f h = f x y h
