-- The entries of a history, the oldest first.
use Rattle.std.proofs.Common.{◌≡◌, ◌+◌, ◌-◌, ◌<◌, ℕ, List, ◌++◌, length, reverse, take, sym, ◌∙◌, append_assoc, add-one, arith}
use Rattle.std.specs.Prelude.{All, Some, slice_get}
use Rattle.std.specs.List.{flat_map}
use Rattle.std.proofs.lemmas.List.{get_or-reverse, length-reverse}
use Rattle.aoe_base.proofs.JoinLemmas.{flat_more}
use Rattle.std.proofs.lemmas.Option.{get_or_from_slice_get, slice_get_within}

pub all_of : {X : Type 0} (P : X → Type 0) (xs : List X) (i : ℕ) (x : X) → All P xs → slice_get (reverse xs) i ≡ Some x → P x
all_of P xs i x all is =
    let within : i < length xs = rw length-reverse at (slice_get_within (reverse xs) i x is) in
    let same = sym (get_or-reverse xs i x within) ∙ get_or_from_slice_get (reverse xs) i x x is in
    rw same at (all (length xs - 1 - i) x (omega arith))

pub one_more : {X : Type 0} (f : X → List ℕ) (xs : List X) (i : ℕ) (x : X) (start out new : List ℕ) → slice_get xs i ≡ Some x
    → out ≡ start ++ flat_map f (take i xs) → new ≡ out ++ f x → new ≡ start ++ flat_map f (take (i + 1) xs)
one_more f xs i x start out new at is new_is = rw (new_is, is, add-one, flat_more f xs i x at) (append_assoc start (flat_map f (take i xs)) (f x))
