-- What rested out changes no answer.
use Rattle.std.proofs.Common.{ℕ, ◌≡◌, ◌≤◌, not, Bool, true, false, List, [], ◌∷◌, map, Option, Some, None, refl, ap, arith, inl, inr}
use Rattle.std.specs.Prelude.{All, Contains, IfNone, IfSome}
use Rattle.std.specs.List.{filter, find}
use Rattle.std.proofs.lemmas.Bool.{cases_Bool, not-false, not-true}
use Rattle.std.proofs.lemmas.Bool.Decides.{nat_tests}
use Rattle.std.proofs.lemmas.List.Elements.{All-filter}
use Rattle.slab.proofs.SlabLemmas.{Contains-cons, Contains-cons_cases}
use Rattle.aoe_flight.specs.declared.outstanding.Outstanding.{Outstanding}
use Rattle.aoe_base.specs.declared.counted.Ticket.{Ticket}
use Rattle.aoe_flight.specs.Outstanding.{change_of, is_over, live, IsFirst}

over-later : (rest latest now : ℕ) (c : Outstanding) → latest ≤ now → is_over rest latest c ≡ true → is_over rest now c ≡ true
over-later rest latest now c after is = grind (arith, nat_tests)

filter-filter : (p q : Outstanding → Bool) → ((x : Outstanding) → p x ≡ false → q x ≡ false) → (xs : List Outstanding) → filter q (filter p xs) ≡ filter q xs
filter-filter p q out [] = refl
filter-filter p q out (x ∷ xs) = elim (cases_Bool (p x)) [
  | inl stays ↦ rw (stays, filter-filter p q out xs) refl
  | inr goes ↦ rw (goes, out x goes) (filter-filter p q out xs)
]

filter-map : (p q : Outstanding → Bool) (f : Outstanding → Outstanding) → ((x : Outstanding) → p x ≡ false → q (f x) ≡ false)
    → (xs : List Outstanding) → filter q (map f (filter p xs)) ≡ filter q (map f xs)
filter-map p q f out [] = refl
filter-map p q f out (x ∷ xs) = elim (cases_Bool (p x)) [
  | inl stays ↦ rw (stays, filter-map p q f out xs) refl
  | inr goes ↦ rw (goes, out x goes) (filter-map p q f out xs)
]

pub live-live : (rest latest now : ℕ) (commands : List Outstanding) → latest ≤ now → live rest now (live rest latest commands) ≡ live rest now commands
live-live rest latest now commands after =
    filter-filter (λ c. not (is_over rest latest c)) (λ c. not (is_over rest now c))
    (λ c out. ap not (over-later rest latest now c after (not-false _ out))) commands

-- a change of a flying command leaves what rests
over-changed : (rest now ticket : ℕ) (change : Outstanding → Outstanding) (c : Outstanding) → is_over rest now c ≡ true
    → is_over rest now (change_of ticket change c) ≡ true
over-changed rest now ticket change c is = grind arith

pub live-changed : (rest latest now ticket : ℕ) (change : Outstanding → Outstanding) (commands : List Outstanding) → latest ≤ now
    → live rest now (map (change_of ticket change) (live rest latest commands)) ≡ live rest now (map (change_of ticket change) commands)
live-changed rest latest now ticket change commands after =
    filter-map (λ c. not (is_over rest latest c)) (λ c. not (is_over rest now c)) (change_of ticket change)
    (λ c out. ap not (over-changed rest now ticket change c (over-later rest latest now c after (not-false _ out)))) commands

pub over-finished : (rest now : ℕ) (c : Outstanding) → is_over rest now c ≡ true → c.finished ≡ true
over-finished rest now c is = grind arith

-- a test of flying commands finds the same among those that fly or rest
pub find-live : (test : Outstanding → Bool) (rest latest : ℕ) → ((c : Outstanding) → c.finished ≡ true → test c ≡ false)
    → (commands : List Outstanding) → find test (live rest latest commands) ≡ find test commands
find-live test rest latest flying [] = refl
find-live test rest latest flying (c ∷ commands) = elim (cases_Bool (is_over rest latest c)) [
  | inl over ↦ rw (over, flying c (over-finished rest latest c over)) (find-live test rest latest flying commands)
  | inr stays ↦ rw (stays, find-live test rest latest flying commands) refl
]

pub Contains-live : (rest latest : ℕ) (commands : List Outstanding) (c : Outstanding) → c.finished ≡ false → Contains commands c
    → Contains (live rest latest commands) c
Contains-live rest latest [] c flying there = absurd (omega (arith, there.1))
Contains-live rest latest (d ∷ commands) c flying there = elim (Contains-cons_cases d c commands there) [
  | inl same ↦ let stays : is_over rest latest d ≡ false = rw (same, flying) in rw stays (0, omega arith, same)
  | inr behind ↦
      let rest_there = Contains-live rest latest commands c flying behind in
      elim (cases_Bool (is_over rest latest d)) [ inl over ↦ rw over rest_there | inr stays ↦ rw stays (Contains-cons d c _ rest_there) ]
]

-- among those that fly or rest
pub first-among : (test : Outstanding → Bool) (before : Outstanding → Outstanding → Bool) (rest latest : ℕ)
    → ((c : Outstanding) → test c ≡ true → not c.finished ≡ true) → (commands : List Outstanding) (result : Option Ticket)
    → IfSome result (λ ticket. (c : Outstanding) × (c.ticket ≡ ticket) × IsFirst test before commands c)
    → IfSome result (λ ticket. (c : Outstanding) × (c.ticket ≡ ticket) × IsFirst test before (live rest latest commands) c)
first-among test before rest latest flying commands None found = tt
first-among test before rest latest flying commands (Some ticket) found =
    let c = found.0 in
    let first = found.2 in (
      c,
      found.1,
      record {
        there = Contains-live rest latest commands c (not-true c.finished (flying c first.passes)) first.there;
        passes = first.passes;
        least = All-filter (λ d. not (is_over rest latest d)) (λ d. test d ≡ true → before d c ≡ false) commands first.least;
      },
    )

pub none-among : (test : Outstanding → Bool) (rest latest : ℕ) (commands : List Outstanding) (result : Option Ticket)
    → IfNone result (All (λ c. test c ≡ false) commands) → IfNone result (All (λ c. test c ≡ false) (live rest latest commands))
none-among test rest latest commands (Some ticket) none = tt
none-among test rest latest commands None none = All-filter (λ d. not (is_over rest latest d)) (λ c. test c ≡ false) commands none
