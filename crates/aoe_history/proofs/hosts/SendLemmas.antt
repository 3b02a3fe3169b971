-- What a send of a host says of its earlier commands.
use Rattle.std.proofs.Common.{ℕ, ◌<◌, ◌≡◌, ◌⊎◌, inl, inr, Bool, true, false, ◌&&◌, ◌||◌, List, [], ◌∷◌, Option, Some, None, refl, arith, Contains}
use Rattle.std.proofs.lemmas.Bool.Decides.{nat_tests}
use Rattle.std.specs.List.{cons_option, filter_map, list_any}
use Rattle.std.proofs.lemmas.Bool.{and_parts, both_ways, not-true, or_parts}
use Rattle.std.proofs.lemmas.List.Folds.{list_any_at}
use Rattle.aoe_hold.specs.declared.command.Command.{Command}
use Rattle.aoe_hold.specs.Commands.{all_gone, conflict, finished, has_effect, keeps_back, rests_on_effects}
use Rattle.aoe_initiator.specs.HostLaw.{is_clear_at}
use Rattle.aoe_initiator.specs.HostLog.{as_entered, is_at, HostCommand}
use Rattle.aoe_initiator.proofs.ListLemmas.{Contains-cons, Contains-cons_cases, Contains-filter, Contains-map}
use Rattle.aoe_history.proofs.LogicLemmas.{untrue}

-- LISTS

pub only-one : {Z : Type 0} (m c : Z) → Contains (m ∷ []) c → m ≡ c
only-one m c x = let z : x.0 ≡ 0 = (let lt = x.1 in omega arith) in rw z at x.2

pub or-parts : (a b : Bool) → (a || b) ≡ false → (a ≡ false) × (b ≡ false)
or-parts = or_parts

pub and-parts : (a b : Bool) → (a && b) ≡ true → (a ≡ true) × (b ≡ true)
and-parts = and_parts

-- what none of a list is
pub none-of : {X : Type 0} (p : X → Bool) (xs : List X) (x : X) → list_any p xs ≡ false → Contains xs x → p x ≡ false
none-of p xs x e there = untrue (p x) (λ t. both_ways _ e (list_any_at p xs there.0 x there.1 (rw there.2 t)))

option-cases : {Y : Type 0} (o : Option Y) (ys : List Y) (y : Y) → Contains (cons_option o ys) y → (o ≡ Some y) ⊎ Contains ys y
option-cases o ys y there = grind (arith, Contains-cons_cases)

behind-option : {Y : Type 0} (o : Option Y) (ys : List Y) (y : Y) → Contains ys y → Contains (cons_option o ys) y
behind-option None ys y there = there
behind-option (Some a) ys y there = Contains-cons a y ys there

-- what a filter gives, and what it gives that of
pub filtered-from : {X Y : Type 0} (f : X → Option Y) (xs : List X) (y : Y) → Contains (filter_map f xs) y → (x : X) × Contains xs x × (f x ≡ Some y)
filtered-from f [] y there = absurd (omega (arith, there.1))
filtered-from f (x ∷ xs) y there = elim (option-cases (f x) (filter_map f xs) y there) [
  | inl own ↦ (x, (0, omega arith, refl), own)
  | inr behind ↦ let from = filtered-from f xs y behind in (from.0, Contains-cons x from.0 xs from.1, from.2)
]

pub filtered : {X Y : Type 0} (f : X → Option Y) (xs : List X) (x : X) (y : Y) → Contains xs x → f x ≡ Some y → Contains (filter_map f xs) y
filtered f [] x y there e = absurd (omega (arith, there.1))
filtered f (z ∷ xs) x y there e = elim (Contains-cons_cases z x xs there) [
  | inl own ↦ rw (own, e) (0, omega arith, refl)
  | inr behind ↦ behind-option (f z) (filter_map f xs) y (filtered f xs x y behind e)
]

-- EARLIER COMMANDS

-- an earlier command in conflict is finished, and its frames are gone where they matter
pub record IsPast (life now : ℕ) (earlier later : Command) : Type 0 where
  pub done : finished earlier.stage ≡ true
  pub gone : has_effect earlier.kind ≡ true → rests_on_effects later.kind ≡ true → all_gone life now earlier.stage ≡ true

past-by : (life now : ℕ) (earlier later : Command) → keeps_back life now earlier later ≡ false
    → earlier.ticket.0 < later.ticket.0 → conflict earlier later ≡ true
    → IsPast life now earlier later
past-by life now earlier later e lt co = grind (arith, nat_tests)

-- a command that is clear was never sent, and each earlier one in conflict at its device is past
pub clear-past : (life now : ℕ) (cs : List HostCommand) (c x : HostCommand) → is_clear_at life now cs c ≡ true
    → Contains cs x → is_at c.device.0 x ≡ true → x.ticket.0 < c.ticket.0
    → conflict (as_entered x) (as_entered c) ≡ true → IsPast life now (as_entered x) (as_entered c)
clear-past life now cs c x clear there at lt co =
    let none = not-true _ (and_parts _ _ clear).1 in
    past-by life now _ _ (none-of _ _ _ none (Contains-map as_entered _ x (Contains-filter (is_at c.device.0) cs x there at))) lt co
