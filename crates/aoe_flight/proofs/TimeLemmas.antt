-- From when on a command is due, expired or has rested out, and the flying command with the lowest ticket above another.
use Rattle.std.proofs.Common.{ℕ, ◌≡◌, ◌+◌, ◌<◌, ◌≤◌, ◌^◌, not, Bool, true, false, List, [], ◌∷◌, Some, length, inl, inr, sym, ap, ◌∙◌, arith, nat_le, nat_lt}
use Rattle.std.specs.Prelude.{slice_index_or, All, Contains}
use Rattle.std.specs.List.{list_any}
use Rattle.std.proofs.lemmas.Bool.{cases_Bool, false_from_ne_true, le-ltb, lt-leb, lt-ltb, true≢false}
use Rattle.std.proofs.lemmas.Bool.Decides.{nat_tests}
use Rattle.std.proofs.lemmas.List.Elements.{All-contains, All-filter}
use Rattle.std.proofs.lemmas.List.Folds.{list_any_at, list_any_none}
use Rattle.slab.specs.Slab.{get, values, Slab}
use Rattle.aoe_sorted.specs.Order.{before}
use Rattle.aoe_flight.specs.declared.order.Entry.{Entry}
use Rattle.aoe_flight.specs.declared.outstanding.Outstanding.{Outstanding}
use Rattle.aoe_flight.specs.FlightTable.{FlightTable, Recalls, SameCommands}
use Rattle.aoe_flight.specs.Order.{rank_of}
use Rattle.aoe_flight.specs.Outstanding.{deadline, flies_above, is_due, is_earlier, is_expired, is_older, is_over, live, lower, precedes, IsFirst}
use Rattle.aoe_flight.specs.Table.{by_last, by_ticket, flies, rests, IsOrderOf}
use Rattle.aoe_flight.proofs.IndexLemmas.{command-of, entry-of, same-command}
use Rattle.aoe_flight.proofs.RecallLemmas.{all-live, all-same, any-none}
use Rattle.aoe_flight.proofs.SlotLemmas.{live-shorter}
use Rattle.aoe_flight.proofs.TableLemmas.{all-passing, due-all, expired-all, over-rests}
use Rattle.aoe_flight.proofs.ValueLemmas.{all-held, held-at, live-all}

-- ---- one passes exactly where the first does

any-first : (test : Outstanding → Bool) (commands : List Outstanding) (c : Outstanding) → Contains commands c
    → (test c ≡ false → All (λ d. test d ≡ false) commands) → list_any test commands ≡ test c
any-first test commands c there none = elim (cases_Bool (test c)) [
  | inl passes ↦ list_any_at test commands there.0 c there.1 (ap test there.2 ∙ passes) ∙ sym passes
  | inr fails ↦ list_any_none test commands (none fails) ∙ sym fails
]

due-time : (now : ℕ) (c : Outstanding) → flies c ≡ true → c.flying.last.0 ≤ now → is_due now c ≡ nat_le (deadline c) now
due-time now c flying past = grind (arith, nat_tests)

expired-time : (dead now : ℕ) (c : Outstanding) → flies c ≡ true → 0 < dead → is_expired dead now c ≡ nat_le (c.flying.first.0 + dead) now
expired-time dead now c flying some = grind (arith, nat_tests)

over-time : (rest now : ℕ) (c : Outstanding) → rests c ≡ true → is_over rest now c ≡ nat_le (c.flying.last.0 + rest + 1) now
over-time rest now c resting = grind (arith, nat_tests)

over-behind : (rest now : ℕ) (c d : Outstanding) → rests c ≡ true → is_over rest now c ≡ false → is_earlier d c ≡ false → is_over rest now d ≡ false
over-behind rest now c d resting out later = grind (arith, nat_tests)

over-all : {commands : List Outstanding} (rest now : ℕ) (c : Outstanding) → is_over rest now c ≡ false → IsFirst rests is_earlier commands c
    → All (λ d. is_over rest now d ≡ false) commands
over-all {commands} rest now c out first = λ k d below. let e = slice_index_or commands k d in false_from_ne_true _ (λ is.
    true≢false (sym is ∙ over-behind rest now c e first.passes out (first.least k d below (over-rests rest now e is))))

module _ {commands : List Outstanding} (now : ℕ) (c : Outstanding) where
  pub any-due : All (λ d. d.flying.last.0 ≤ now) commands → IsFirst flies precedes commands c
      → list_any (is_due now) commands ≡ nat_le (deadline c) now
  any-due past first =
      any-first (is_due now) commands c first.there (λ out. due-all now c out past first)
      ∙ due-time now c first.passes (All-contains (λ d. d.flying.last.0 ≤ now) commands c past first.there)

  pub any-expired : (dead : ℕ) → 0 < dead → IsFirst flies is_older commands c
      → list_any (is_expired dead now) commands ≡ nat_le (c.flying.first.0 + dead) now
  any-expired dead some first =
      any-first (is_expired dead now) commands c first.there (λ out. expired-all dead now c out first) ∙ expired-time dead now c first.passes some

  pub any-over : (rest : ℕ) → IsFirst rests is_earlier commands c → list_any (is_over rest now) commands ≡ nat_le (c.flying.last.0 + rest + 1) now
  any-over rest first =
      any-first (is_over rest now) commands c first.there (λ out. over-all rest now c out first) ∙ over-time rest now c first.passes

-- no clock of 64 bits comes to the largest number of 128 bits
never : (now : ℕ) → now < 2 ^ 64 → false ≡ nat_le 340282366920938463463374607431768211455 now
never now small = sym (lt-leb 340282366920938463463374607431768211455 now (omega (arith, small)))

pub any-never : {wide : Outstanding → Bool} (commands : List Outstanding) (test : Outstanding → Bool) (now : ℕ) → now < 2 ^ 64
    → ((c : Outstanding) → test c ≡ true → wide c ≡ true) → All (λ c. wide c ≡ false) commands
    → list_any test commands ≡ nat_le 340282366920938463463374607431768211455 now
any-never commands test now small wider none = list_any_none test commands (all-passing commands test wider none) ∙ never now small

pub before-earlier : (k j : ℕ) (o c : Outstanding) → before (rank_of (by_last k o)) (rank_of (by_last j c)) ≡ false → is_earlier o c ≡ false
before-earlier k j o c out = grind arith

-- ---- room

live-fewer : (rest now : ℕ) (commands : List Outstanding) → list_any (is_over rest now) commands ≡ true
    → length (live rest now commands) < length commands
live-fewer rest now [] any = absurd cc
live-fewer rest now (c ∷ commands) any = elim (cases_Bool (is_over rest now c)) [
  | inl over ↦ rw over (omega (arith, live-shorter rest now commands))
  | inr stays ↦ rw stays (omega (arith, live-fewer rest now commands (rw stays at any)))
]

-- a full table has room as soon as one has rested out
pub room-full : (rest now room from : ℕ) (commands : List Outstanding) → length commands ≡ room
    → list_any (is_over rest now) commands ≡ nat_le from now → nat_lt (length (live rest now commands)) room ≡ nat_le from now
room-full rest now room from commands full is = elim (cases_Bool (list_any (is_over rest now) commands)) [
  | inl over ↦ lt-ltb _ room (omega (arith, full, live-fewer rest now commands over)) ∙ sym over ∙ is
  | inr none ↦
      let all = live-all rest now commands (any-none (is_over rest now) commands none) in
      le-ltb _ room (omega (arith, full, ap (λ (l : List Outstanding). length l) all)) ∙ sym none ∙ is
]

pub room-left : (rest now room : ℕ) (commands : List Outstanding) → length commands < room → nat_lt (length (live rest now commands)) room ≡ true
room-left rest now room commands more = lt-ltb _ room (omega (arith, more, live-shorter rest now commands))

-- ---- all commands that were sent

pub same-bool : (a b : Bool) → (a ≡ false → b ≡ false) → (b ≡ false → a ≡ false) → a ≡ b
same-bool a b there back = elim (cases_Bool b) [
  | inl yes_b ↦ elim (cases_Bool a) [
    | inl yes_a ↦ yes_a ∙ sym yes_b
    | inr no_a ↦ no_a ∙ sym (there no_a)
  ]
  | inr no_b ↦ back no_b ∙ sym no_b
]

any-same : (test : Outstanding → Bool) (xs ys : List Outstanding) → SameCommands xs ys → list_any test xs ≡ list_any test ys
any-same test xs ys same =
    same-bool _ _ (λ none. list_any_none test ys (all-same test xs ys same (any-none test xs none)))
    (λ none. list_any_none test xs (all-same test ys xs (λ t. sym (same t)) (any-none test ys none)))

pub any-live : (test : Outstanding → Bool) (rest latest : ℕ) → ((c : Outstanding) → c.finished ≡ true → test c ≡ false) → (commands : List Outstanding)
    → list_any test (live rest latest commands) ≡ list_any test commands
any-live test rest latest flying commands =
    same-bool _ _ (λ none. list_any_none test commands (all-live test rest latest flying commands (any-none test (live rest latest commands) none)))
    (λ none. list_any_none test (live rest latest commands)
    (All-filter (λ c. not (is_over rest latest c)) (λ c. test c ≡ false) commands (any-none test commands none)))

-- a test of flying commands passes in the table as among all
pub any-recalled : (test : Outstanding → Bool) (table : FlightTable) → ((c : Outstanding) → c.finished ≡ true → test c ≡ false) → (sent : List Outstanding)
    → Recalls table sent → list_any test sent ≡ list_any test table.commands
any-recalled test table flying sent recalls =
    sym (any-live test table.rest table.latest flying sent) ∙ sym (any-same test table.commands (live table.rest table.latest sent) recalls)

-- ---- tickets above another

abbrev pub above_entry : ℕ → Entry
above_entry n = record { at = n + 1; tie = 0; slot = 0 }

pub above-flies : (n : ℕ) (c : Outstanding) → flies_above n c ≡ true → flies c ≡ true
above-flies n c is = grind arith

not-before : (n k : ℕ) (d : Outstanding) → flies_above n d ≡ true → before (rank_of (by_ticket k d)) (rank_of (above_entry n)) ≡ false
not-before n k d passes = grind (arith, nat_tests)

above-from : (n k : ℕ) (d : Outstanding) → flies d ≡ true → before (rank_of (by_ticket k d)) (rank_of (above_entry n)) ≡ false → flies_above n d ≡ true
above-from n k d flying out = grind (arith, nat_tests)

not-lower : (k j : ℕ) (d c : Outstanding) → before (rank_of (by_ticket k d)) (rank_of (by_ticket j c)) ≡ false → lower d c ≡ false
not-lower k j d c out = grind arith

module _ {slab : Slab Outstanding} {entries : List Entry} (n : ℕ) (o : IsOrderOf slab flies by_ticket entries) where
  pub none-above : All (λ e. before (rank_of e) (rank_of (above_entry n)) ≡ true) entries → All (λ c. flies_above n c ≡ false) (values slab)
  none-above none = all-held (λ c. flies_above n c ≡ false) slab.slots (λ k d at. false_from_ne_true _ (λ passes.
      let there = entry-of o k d at (above-flies n d passes) in
      true≢false (sym (All-contains (λ e. before (rank_of e) (rank_of (above_entry n)) ≡ true) entries (by_ticket k d) none there) ∙ not-before n k d passes)))

  pub first-above : (e : Entry) (c : Outstanding) → Contains entries e → before (rank_of e) (rank_of (above_entry n)) ≡ false
      → All (λ other. before (rank_of other) (rank_of (above_entry n)) ≡ false → before (rank_of other) (rank_of e) ≡ false) entries
      → get slab e.slot ≡ Some c → IsFirst (flies_above n) lower (values slab) c
  first-above e c there from first at =
      let held = command-of o e there in
      let one : held.command ≡ c = same-command slab e.slot held.command c held.there at in
      let is : e ≡ by_ticket e.slot c = held.is ∙ ap (by_ticket e.slot) one in
      let flying : flies c ≡ true = ap flies (sym one) ∙ held.passes in
      record {
        there = held-at slab.slots e.slot c at;
        passes = above-from n e.slot c flying (rw is at from);
        least = all-held (λ other. flies_above n other ≡ true → lower other c ≡ false) slab.slots (λ k d at_k passes.
            let inside = entry-of o k d at_k (above-flies n d passes) in
            let behind = All-contains (λ other. before (rank_of other) (rank_of (above_entry n)) ≡ false → before (rank_of other) (rank_of e) ≡ false) entries
            (by_ticket k d) first inside (not-before n k d passes) in
            not-lower k e.slot d c (rw is at behind));
      }
