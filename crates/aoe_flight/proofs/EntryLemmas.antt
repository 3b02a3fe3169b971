-- Entries, and their ranks.
use Rattle.std.proofs.Common.{ℕ, ◌≡◌, ◌≤◌, ◌&&◌, Bool, true, false, List, [], ◌∷◌, ◌∙◌, arith, nat_eq, Some, None}
use Rattle.std.specs.Prelude.{slice_get, Contains}
use Rattle.std.proofs.lemmas.Bool.Decides.{nat_tests}
use Rattle.std.proofs.lemmas.Option.{get_or_from_slice_get, slice_get_within}
use Rattle.aoe_sorted.specs.Order.{before}
use Rattle.aoe_flight.specs.declared.order.Entry.{Entry}
use Rattle.aoe_flight.specs.Order.{rank_of}

abbrev pub same_entry : Entry → Entry → Bool
same_entry a b = nat_eq a.at b.at && (nat_eq a.tie b.tie && nat_eq a.slot b.slot)

pub same-self : (a : Entry) → same_entry a a ≡ true
same-self a = grind (arith, nat_tests)

pub same-is : (a b : Entry) → same_entry a b ≡ true → a ≡ b
same-is a b is = grind (arith, nat_tests)

-- the one that stands first has the least number
pub at-least : (a b : Entry) → before (rank_of b) (rank_of a) ≡ false → a.at ≤ b.at
at-least a b out = grind (arith, nat_tests)

-- of two that differ, one stands before the other
neither-same : (a b : Entry) → before (rank_of a) (rank_of b) ≡ false → before (rank_of b) (rank_of a) ≡ false → a ≡ b
neither-same a b one two = grind (arith, nat_tests)

pub found-there : (xs : List Entry) (i : ℕ) (first e : Entry) → slice_get xs i ≡ Some first → before (rank_of first) (rank_of e) ≡ false
    → before (rank_of e) (rank_of first) ≡ false → Contains xs e
found-there xs i first e is one two = (i, slice_get_within xs i first is, get_or_from_slice_get xs i first e is ∙ neither-same first e one two)

pub head-there : (xs : List Entry) (e : Entry) → slice_get xs 0 ≡ Some e → Contains xs e
head-there xs e is = (0, slice_get_within xs 0 e is, get_or_from_slice_get xs 0 e e is)

pub none-there : (xs : List Entry) (f : Entry) → slice_get xs 0 ≡ None → ¬ (Contains xs f)
none-there [] f is there = omega (arith, there.1)
none-there (x ∷ xs) f is there = absurd cc
