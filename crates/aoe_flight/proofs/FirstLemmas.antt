-- The best of a list in an order.
use Rattle.std.proofs.Common.{ℕ, ◌≡◌, ◌&&◌, not, Bool, true, false, List, [], ◌∷◌, Option, Some, None, ◌⊎◌, inl, inr, refl, sym, ◌∙◌, arith}
use Rattle.std.specs.Prelude.{option_map, Contains, All, IfNone, IfSome}
use Rattle.std.proofs.lemmas.Bool.{and_parts, cases_Bool}
use Rattle.std.proofs.lemmas.Bool.Decides.{nat_tests}
use Rattle.std.proofs.lemmas.List.Elements.{All-cons, All-filter, All-nil}
use Rattle.slab.proofs.SlabLemmas.{Contains-cons}
use Rattle.aoe_base.specs.declared.counted.Ticket.{Ticket}
use Rattle.aoe_flight.specs.declared.outstanding.Outstanding.{Outstanding}
use Rattle.aoe_flight.specs.Outstanding.{best, is_better, is_expired, is_over, live, lower, IsFirst}
use Rattle.aoe_flight.proofs.LiveLemmas.{Contains-live}

pub record IsOrder (before : Outstanding → Outstanding → Bool) : Type 0 where
  pub same : (a : Outstanding) → before a a ≡ false
  pub past : (a b c : Outstanding) → before a b ≡ true → before a c ≡ false → before b c ≡ false
  pub neither : (a b c : Outstanding) → before a b ≡ false → before b c ≡ false → before a c ≡ false

pub lower-order : IsOrder lower
lower-order = record {
  same = λ a. grind (arith, nat_tests);
  past = λ a b c is out. grind (arith, nat_tests);
  neither = λ a b c first second. grind (arith, nat_tests);
}

-- what the best of a list and of the best so far has
pub record Best (test : Outstanding → Bool) (before : Outstanding → Outstanding → Bool) (so_far : Option Outstanding) (commands : List Outstanding)
    (c : Outstanding) : Type 0 where
  pub from : (so_far ≡ Some c) ⊎ (Contains commands c × (test c ≡ true))
  pub first : (b : Outstanding) → so_far ≡ Some b → before b c ≡ false
  pub least : All (λ d. test d ≡ true → before d c ≡ false) commands

better-than : (before : Outstanding → Outstanding → Bool) (d b : Outstanding) (so_far : Option Outstanding) (t : Bool) → is_better before d so_far ≡ t
    → so_far ≡ Some b
    → before d b ≡ t
better-than before d b so_far t is at = rw at at is

pub best-is : (test : Outstanding → Bool) (before : Outstanding → Outstanding → Bool) → IsOrder before
    → (commands : List Outstanding) (so_far : Option Outstanding) (c : Outstanding)
    → best test before so_far commands ≡ Some c → Best test before so_far commands c
best-is test before order [] so_far c is = record {
  from = inl is;
  first = λ b at. let some : Some b ≡ Some c = sym at ∙ is in let same : b ≡ c = cc in rw same (order.same c);
  least = All-nil (λ d. test d ≡ true → before d c ≡ false);
}
best-is test before order (d ∷ commands) so_far c is = elim (cases_Bool (test d && is_better before d so_far)) [
  | inl taken ↦
      let parts = and_parts (test d) (is_better before d so_far) taken in
      let next : best test before (Some d) commands ≡ Some c = rw taken at is in
      let rest = best-is test before order commands (Some d) c next in
      let behind : before d c ≡ false = rest.first d refl in
      record {
        from = inr (elim rest.from [
          | inl here ↦ let same : d ≡ c = cc in ((0, omega arith, same), rw (← same) parts.0)
          | inr there ↦ (Contains-cons d c commands there.0, there.1)
        ]);
        first = λ b at. order.past d b c (better-than before d b so_far true parts.1 at) behind;
        least = All-cons (λ e. test e ≡ true → before e c ≡ false) d commands (λ _. behind) rest.least;
      }
  | inr left ↦
      let next : best test before so_far commands ≡ Some c = rw left at is in
      let rest = best-is test before order commands so_far c next in
      record {
        from = elim rest.from [ inl here ↦ inl here | inr there ↦ inr (Contains-cons d c commands there.0, there.1) ];
        first = rest.first;
        least = All-cons (λ e. test e ≡ true → before e c ≡ false) d commands (λ passes. worse so_far rest left passes refl) rest.least;
      }
]
  where
    worse : (so : Option Outstanding) → Best test before so_far commands c → (test d && is_better before d so_far) ≡ false → test d ≡ true
        → so_far ≡ so → before d c ≡ false
    worse None rest left passes at = let here = rw (at, passes) at left in absurd cc
    worse (Some b) rest left passes at = let here = rw (at, passes) at left in order.neither d b c here (rest.first b at)

pub best-none : (test : Outstanding → Bool) (before : Outstanding → Outstanding → Bool) (commands : List Outstanding) (so_far : Option Outstanding)
    → best test before so_far commands ≡ None → (so_far ≡ None) × All (λ c. test c ≡ false) commands
best-none test before [] so_far is = (is, All-nil (λ c. test c ≡ false))
best-none test before (d ∷ commands) so_far is = elim (cases_Bool (test d && is_better before d so_far)) [
  | inl taken ↦
      let next : best test before (Some d) commands ≡ None = rw taken at is in
      let impossible = (best-none test before commands (Some d) next).0 in
      absurd cc
  | inr left ↦
      let next : best test before so_far commands ≡ None = rw left at is in
      let rest = best-none test before commands so_far next in
      let here = rw rest.0 at left in
      (rest.0, All-cons (λ c. test c ≡ false) d commands (grind (arith, here)) rest.1)
]

-- among those that fly or rest
module _ (test : Outstanding → Bool) (before : Outstanding → Outstanding → Bool) (rest latest : ℕ) (commands : List Outstanding) where
  pub first-live : IsOrder before → ((c : Outstanding) → test c ≡ true → c.finished ≡ false) → (result : Option Ticket) (o : Option Outstanding)
      → best test before None commands ≡ o → result ≡ option_map (λ c. c.ticket) o
      → IfSome result (λ ticket. (c : Outstanding) × (c.ticket ≡ ticket) × IsFirst test before (live rest latest commands) c)
  first-live order flying None o found is = tt
  first-live order flying (Some ticket) None found is = absurd cc
  first-live order flying (Some ticket) (Some c) found is =
      let b = best-is test before order commands None c found in
      let there : Contains commands c × (test c ≡ true) = elim b.from [ inl none ↦ absurd cc | inr one ↦ one ] in (
        c,
        cc,
        record {
          there = Contains-live rest latest commands c (flying c there.1) there.0;
          passes = there.1;
          least = All-filter (λ d. not (is_over rest latest d)) (λ d. test d ≡ true → before d c ≡ false) commands b.least;
        },
      )

  pub none-live : (result : Option Ticket) (o : Option Outstanding) → best test before None commands ≡ o → result ≡ option_map (λ c. c.ticket) o
      → IfNone result (All (λ c. test c ≡ false) (live rest latest commands))
  none-live (Some ticket) o found is = tt
  none-live None (Some c) found is = absurd cc
  none-live None None found is =
      All-filter (λ d. not (is_over rest latest d)) (λ c. test c ≡ false) commands (best-none test before commands None found).1

pub expired-flies : (dead now : ℕ) (c : Outstanding) → is_expired dead now c ≡ true → c.finished ≡ false
expired-flies dead now c expired = grind arith

-- where one passes, there is a best
pub best-some : (P : Type 0) (test : Outstanding → Bool) (before : Outstanding → Outstanding → Bool) (commands : List Outstanding) (c : Outstanding)
    (result : Option Outstanding) → Contains commands c → test c ≡ true → result ≡ best test before None commands → IfNone result P
best-some P test before commands c (Some found) there passes is = tt
best-some P test before commands c None there passes is =
    let none : test c ≡ false = rw there.2 at ((best-none test before commands None (sym is)).1 there.0 c there.1) in absurd cc
