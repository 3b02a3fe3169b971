-- What a table says of all commands that were sent, of which it has those that fly or rest.
use Rattle.std.proofs.Common.{get_or, ℕ, ◌≡◌, ◌≤◌, ◌&&◌, cond, not, Bool, true, false, List, [], ◌∷◌, length, map, Option, Some, None, inl, inr, refl, sym, ap, ◌∙◌, arith, nat_eq}
use Rattle.std.specs.Bool.{beq}
use Rattle.std.proofs.lemmas.List.Folds.{list_any_at, list_any_none}
use Rattle.std.proofs.lemmas.Option.{IfSome_then}
use Rattle.std.specs.List.{count_by, filter, find, list_any}
use Rattle.std.specs.List.Sorted.{IsPermutation}
use Rattle.std.specs.Prelude.{option_map, All, Contains, IfNone, IfSome}
use Rattle.std.proofs.lemmas.Bool.{cases_Bool, false_from_ne_true, true≢false}
use Rattle.std.proofs.lemmas.Bool.Decides.{nat_tests}
use Rattle.std.proofs.lemmas.List.Elements.{All-cons, All-contains, All-contains_itself, All-filter, All-nil, Contains-get_or}
use Rattle.std.proofs.lemmas.List.Sorted.{sum_by-IsPermutation}
use Rattle.slab.proofs.SlabLemmas.{Contains-cons, Contains-cons_cases}
use Rattle.aoe_base.specs.declared.counted.Ticket.{Ticket}
use Rattle.aoe_flight.specs.declared.outstanding.Flying.{Flying}
use Rattle.aoe_flight.specs.declared.outstanding.Outstanding.{Outstanding}
use Rattle.aoe_flight.specs.FlightTable.{after_change, at_time, live_at, FlightTable, Recalls, SameCommands}
use Rattle.aoe_flight.specs.Outstanding.{change_of, flies_with, is_over, is_taken, has_tag, live, tag_count, IsFirst}
use Rattle.aoe_base.proofs.CountLemmas.{all-none, count-all, count-cons, count-filter, count-map, count-yes, none-all}
use Rattle.aoe_flight.proofs.CountLemmas.{counted-some, some-counted}
use Rattle.aoe_flight.proofs.LiveLemmas.{live-changed, live-live, Contains-live}

pub same-filter : (p : Outstanding → Bool) (xs ys : List Outstanding) → SameCommands xs ys → SameCommands (filter p xs) (filter p ys)
same-filter p xs ys same test = count-filter test p xs ∙ same (λ x. p x && test x) ∙ sym (count-filter test p ys)

same-map : (f : Outstanding → Outstanding) (xs ys : List Outstanding) → SameCommands xs ys → SameCommands (map f xs) (map f ys)
same-map f xs ys same test = count-map test f xs ∙ same (λ x. test (f x)) ∙ sym (count-map test f ys)

same-cons : (x : Outstanding) (xs ys : List Outstanding) → SameCommands xs ys → SameCommands (x ∷ xs) (x ∷ ys)
same-cons x xs ys same test = count-cons test x xs ∙ rw (same test) (sym (count-cons test x ys))

same-permutation : (xs ys : List Outstanding) → IsPermutation xs ys → SameCommands ys xs
same-permutation xs ys is test = sum_by-IsPermutation (λ (y : Outstanding). cond (test y) 1 0) xs ys is

pub all-same : (test : Outstanding → Bool) (xs ys : List Outstanding) → SameCommands xs ys → All (λ c. test c ≡ false) xs → All (λ c. test c ≡ false) ys
all-same test xs ys same all = none-all test ys (sym (same test) ∙ all-none test xs all)

-- a test that one command alone passes
abbrev is_same : Outstanding → Outstanding → Bool
is_same a b =
    nat_eq a.ticket.0 b.ticket.0 && (nat_eq a.flying.tag b.flying.tag && (nat_eq a.flying.first.0 b.flying.first.0 && (nat_eq a.flying.last.0 b.flying.last.0
    && (nat_eq a.flying.path.0 b.flying.path.0 && (nat_eq a.flying.sends b.flying.sends && (nat_eq a.wait.0 b.wait.0 && beq a.finished b.finished))))))

same-self : (a : Outstanding) → is_same a a ≡ true
same-self a = grind (arith, nat_tests)

same-is : (a b : Outstanding) → is_same a b ≡ true → a ≡ b
same-is a b is = grind (arith, nat_tests)

Contains-same : (xs ys : List Outstanding) (c : Outstanding) → SameCommands xs ys → Contains xs c → Contains ys c
Contains-same xs ys c same there =
    let found = counted-some (is_same c) ys (rw (← same (is_same c)) (some-counted (is_same c) xs c there (same-self c))) in
    rw (same-is c found.0 found.2) found.1

Contains-live_all : (rest latest : ℕ) (sent : List Outstanding) (c : Outstanding) → Contains (live rest latest sent) c → Contains sent c
Contains-live_all rest latest sent c there = All-contains (Contains sent) (live rest latest sent) c
    (All-filter (λ d. not (is_over rest latest d)) (Contains sent) sent (All-contains_itself sent)) there

-- a test of flying commands that none of the live ones passes
pub all-live : (test : Outstanding → Bool) (rest latest : ℕ) → ((c : Outstanding) → c.finished ≡ true → test c ≡ false) → (sent : List Outstanding)
    → All (λ c. test c ≡ false) (live rest latest sent) → All (λ c. test c ≡ false) sent
all-live test rest latest flying sent none = λ k d below.
    let c = get_or sent k d in
    elim (cases_Bool c.finished) [
      | inl rests ↦ flying c rests
      | inr flies ↦ All-contains (λ e. test e ≡ false) (live rest latest sent) c none
          (Contains-live rest latest sent c flies (Contains-get_or sent k d below))
    ]

-- the table at a later time
same-at : (table : FlightTable) (sent : List Outstanding) (now : ℕ) → Recalls table sent → table.latest ≤ now
    → SameCommands (live_at table now) (live table.rest now sent)
same-at table sent now recalls later =
    rw (← live-live table.rest table.latest now sent later)
    (same-filter (λ c. not (is_over table.rest now c)) table.commands (live table.rest table.latest sent) recalls)

pub recalls-at : (table new : FlightTable) (sent : List Outstanding) (now : ℕ) → new ≡ at_time table now → Recalls table sent → table.latest ≤ now
    → Recalls new sent
recalls-at table new sent now is recalls later = rw is (same-at table sent now recalls later)

pub recalls-change : (table new : FlightTable) (sent : List Outstanding) (ticket : ℕ) (change : Outstanding → Outstanding) (now : ℕ)
    → new ≡ after_change table ticket change now → Recalls table sent → table.latest ≤ now → Recalls new (map (change_of ticket change) sent)
recalls-change table new sent ticket change now is recalls later =
    let f = change_of ticket change in
    let known = live table.rest table.latest sent in
    rw (is, ← live-changed table.rest table.latest now ticket change sent later)
    (same-filter (λ c. not (is_over table.rest now c)) (map f table.commands) (map f known) (same-map f table.commands known recalls))

pub recalls-launch : (table new : FlightTable) (sent : List Outstanding) (c : Outstanding) (now tag : ℕ) → c.finished ≡ false
    → new ≡ record table { latest = now; last_tag = tag; commands = new.commands }
    → IsPermutation (c ∷ live_at table now) new.commands → Recalls table sent → table.latest ≤ now → Recalls new (c ∷ sent)
recalls-launch table new sent c now tag flying same is recalls later = λ test.
    let old : ℕ → ℕ → List Outstanding = λ rest latest. live rest latest (c ∷ sent) in
    let known : old new.rest new.latest ≡ c ∷ live table.rest now sent =
    ap (λ (t : FlightTable). old t.rest t.latest) same ∙ rw flying refl in
    same-permutation (c ∷ live_at table now) new.commands is test
    ∙ same-cons c (live_at table now) (live table.rest now sent) (same-at table sent now recalls later) test ∙ ap (count_by test) (sym known)

-- the first of the commands of a table is the first of all
pub first-recalled : (test : Outstanding → Bool) (before : Outstanding → Outstanding → Bool) (table : FlightTable)
    → ((c : Outstanding) → c.finished ≡ true → test c ≡ false) → (result : Option Ticket)
    → IfSome result (λ ticket. (c : Outstanding) × (c.ticket ≡ ticket) × IsFirst test before table.commands c)
    → IfSome result (λ ticket. (sent : List Outstanding) → Recalls table sent → (c : Outstanding) × (c.ticket ≡ ticket) × IsFirst test before sent c)
first-recalled test before table flying result first = IfSome_then result first (λ ticket found sent recalls.
    let c = found.0 in
    let is = found.2 in
    let earlier : Outstanding → Bool = λ other. test other && before other c in
    let none = all-same earlier table.commands (live table.rest table.latest sent) recalls (λ k d below. grind (arith, is.least k d below)) in
    let all = all-live earlier table.rest table.latest (λ other rests. rw (flying other rests)) sent none in (
      c,
      found.1,
      record {
        there = Contains-live_all table.rest table.latest sent c (Contains-same table.commands (live table.rest table.latest sent) c recalls is.there);
        passes = is.passes;
        least = λ k d below passes. grind (arith, all k d below);
      },
    ))

pub none-recalled : (test : Outstanding → Bool) (table : FlightTable) → ((c : Outstanding) → c.finished ≡ true → test c ≡ false) → (result : Option Ticket)
    → IfNone result (All (λ c. test c ≡ false) table.commands) → IfNone result ((sent : List Outstanding) → Recalls table sent → All (λ c. test c ≡ false) sent)
none-recalled test table flying (Some ticket) none = tt
none-recalled test table flying None none = λ sent recalls.
    all-live test table.rest table.latest flying sent (all-same test table.commands (live table.rest table.latest sent) recalls none)

-- as many fly or rest
pub length-recalled : (table : FlightTable) (sent : List Outstanding) (now : ℕ) → Recalls table sent → table.latest ≤ now
    → length (live_at table now) ≡ length (live table.rest now sent)
length-recalled table sent now recalls later =
    sym (count-all (live_at table now)) ∙ same-at table sent now recalls later (λ c. true) ∙ count-all (live table.rest now sent)

pub any-none : (test : Outstanding → Bool) (xs : List Outstanding) → list_any test xs ≡ false → All (λ c. test c ≡ false) xs
any-none test xs none = λ k d below. false_from_ne_true _ (λ passes. true≢false (sym (list_any_at test xs k d below passes) ∙ none))

-- a tag that no command of the table has is free among all
pub free-recalled : (table : FlightTable) (sent : List Outstanding) (now tag : ℕ) → Recalls table sent → table.latest ≤ now
    → is_taken (live_at table now) tag ≡ false → is_taken (live table.rest now sent) tag ≡ false
free-recalled table sent now tag recalls later free =
    list_any_none (has_tag tag) (live table.rest now sent)
    (all-same (has_tag tag) (live_at table now) _ (same-at table sent now recalls later) (any-none (has_tag tag) (live_at table now) free))

pub find-there : (test : Outstanding → Bool) (c : Outstanding) (xs : List Outstanding) → find test xs ≡ Some c → Contains xs c × (test c ≡ true)
find-there test c [] is = absurd cc
find-there test c (x ∷ xs) is = elim (cases_Bool (test x)) [
  | inl passes ↦ let found = rw passes at is in let same : x ≡ c = cc in ((0, omega arith, same), rw (← same) passes)
  | inr fails ↦ let rest = find-there test c xs (rw fails at is) in (Contains-cons x c xs rest.0, rest.1)
]

find-none : (test : Outstanding → Bool) (xs : List Outstanding) → find test xs ≡ None → All (λ c. test c ≡ false) xs
find-none test [] is = All-nil (λ c. test c ≡ false)
find-none test (x ∷ xs) is = elim (cases_Bool (test x)) [
  | inl passes ↦ let found = rw passes at is in absurd cc
  | inr fails ↦ All-cons (λ c. test c ≡ false) x xs fails (find-none test xs (rw fails at is))
]

-- the command that a test of flying commands finds
found-recalled : (test : Outstanding → Bool) (table : FlightTable) (c : Outstanding) → find test table.commands ≡ Some c → (sent : List Outstanding)
    → Recalls table sent → Contains sent c × (test c ≡ true)
found-recalled test table c is sent recalls =
    let found = find-there test c table.commands is in
    (Contains-live_all table.rest table.latest sent c (Contains-same table.commands (live table.rest table.latest sent) c recalls found.0), found.1)

-- what is known of a flying command, by the command that was sent
pub flying-recalled : (test : Outstanding → Bool) (table : FlightTable) (o : Option Outstanding) (f : Flying) → find test table.commands ≡ o
    → option_map (λ c. c.flying) o ≡ Some f
    → (sent : List Outstanding) → Recalls table sent → (c : Outstanding) × Contains sent c × (test c ≡ true) × (c.flying ≡ f)
flying-recalled test table None f is mapped sent recalls = absurd cc
flying-recalled test table (Some c) f is mapped sent recalls =
    let found = found-recalled test table c is sent recalls in
    (c, found.0, found.1, cc)

-- the flying command with a tag, if there is one
pub match-recalled : (test : Outstanding → Bool) (table : FlightTable) (o : Option Outstanding) (result : Option Ticket)
    → find test table.commands ≡ o → result ≡ option_map (λ c. c.ticket) o
    → IfSome result (λ ticket. (sent : List Outstanding) → Recalls table sent → (c : Outstanding) × (c.ticket ≡ ticket) × Contains sent c × (test c ≡ true))
match-recalled test table o None is mapped = tt
match-recalled test table None (Some ticket) is mapped = absurd cc
match-recalled test table (Some c) (Some ticket) is mapped = λ sent recalls.
    let found = found-recalled test table c is sent recalls in
    (c, cc, found.0, found.1)

pub no-match-recalled : (test : Outstanding → Bool) (table : FlightTable) → ((c : Outstanding) → c.finished ≡ true → test c ≡ false)
    → (o : Option Outstanding) (result : Option Ticket) → find test table.commands ≡ o
    → result ≡ option_map (λ c. c.ticket) o → IfNone result ((sent : List Outstanding) → Recalls table sent → All (λ c. test c ≡ false) sent)
no-match-recalled test table flying o (Some ticket) is mapped = tt
no-match-recalled test table flying None None is mapped = λ sent recalls.
    all-live test table.rest table.latest flying sent
    (all-same test table.commands (live table.rest table.latest sent) recalls (find-none test table.commands is))
no-match-recalled test table flying (Some c) None is mapped = absurd cc

once : (test : Outstanding → Bool) (xs : List Outstanding) (a b : Outstanding) → count_by test xs ≤ 1 → Contains xs a → test a ≡ true → Contains xs b
    → test b ≡ true → a ≡ b
once test [] a b few in_a is_a in_b is_b = absurd (omega (arith, in_a.1))
once test (x ∷ xs) a b few in_a is_a in_b is_b = elim (Contains-cons_cases x a xs in_a) [
  | inl here_a ↦ elim (Contains-cons_cases x b xs in_b) [
    | inl here_b ↦ sym here_a ∙ here_b
    | inr behind_b ↦ absurd (omega (arith, few, count-yes test x xs (ap test here_a ∙ is_a), some-counted test xs b behind_b is_b))
  ]
  | inr behind_a ↦ elim (Contains-cons_cases x b xs in_b) [
    | inl here_b ↦ absurd (omega (arith, few, count-yes test x xs (ap test here_b ∙ is_b), some-counted test xs a behind_a is_a))
    | inr behind_b ↦ once test xs a b (omega (arith, few, count-cons test x xs)) behind_a is_a behind_b is_b
  ]
]

flies-parts : (tag : ℕ) (c : Outstanding) → flies_with tag c ≡ true → (c.finished ≡ false) × (has_tag tag c ≡ true)
flies-parts tag c is = grind arith

-- of all commands that were sent, one at most flies with a tag
pub tagged-once : (table : FlightTable) (sent : List Outstanding) (tag : ℕ) (a b : Outstanding) → Recalls table sent → tag_count table.commands tag ≤ 1
    → Contains sent a → flies_with tag a ≡ true → Contains sent b → flies_with tag b ≡ true → a ≡ b
tagged-once table sent tag a b recalls few in_a is_a in_b is_b =
    let of_a = flies-parts tag a is_a in
    let of_b = flies-parts tag b is_b in
    once (has_tag tag) (live table.rest table.latest sent) a b (omega (arith, recalls (has_tag tag)))
    (Contains-live table.rest table.latest sent a of_a.0 in_a) of_a.1 (Contains-live table.rest table.latest sent b of_b.0 in_b) of_b.1
