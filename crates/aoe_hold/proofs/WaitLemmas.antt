-- Which commands wait, and from when on they are clear.
use Rattle.std.proofs.Common.{ℕ, suc, ◌≡◌, ◌+◌, ◌<◌, ◌≤◌, ◌^◌, ◌&&◌, ◌||◌, not, cond, true, false, Bool, List, [], ◌∷◌, length, map, Option, Some, None, inl, inr, refl, sym, ap, ◌∙◌, arith, get_or, nat_le, nat_lt}
use Rattle.std.specs.Prelude.{option_map, slice_get, All, Contains, IfNone, IfSome, ⊤}
use Rattle.std.specs.List.{count_by, filter, list_any}
use Rattle.std.proofs.lemmas.Bool.{cases_Bool, le-leb, le-ltb, lt-leb, lt-ltb, ltb-false}
use Rattle.std.proofs.lemmas.Bool.Decides.{nat_tests}
use Rattle.std.proofs.lemmas.List.Elements.{All-cons, All-map}
use Rattle.aoe_base.specs.declared.counted.Ticket.{Ticket}
use Rattle.aoe_base.proofs.CountLemmas.{all-none, count-agree, count-alike, count-all, count-cons, count-filter, count-map, count-no, count-yes, none-all}
use Rattle.aoe_sorted.specs.Order.{before}
use Rattle.aoe_hold.specs.declared.command.Command.{Command}
use Rattle.aoe_hold.specs.declared.queue.Waiter.{Waiter}
use Rattle.aoe_hold.specs.Commands.{clear_tickets, is_clear, keeps_back}
use Rattle.aoe_hold.specs.HoldTable.{is_ascending}
use Rattle.aoe_hold.specs.Queue.{blocks, is_blocked, lingers, rank_of, ticket_of, waits, IsInOrder, Knows}
use Rattle.aoe_hold.proofs.ListLemmas.{any-alike, any-or}
use Rattle.aoe_hold.proofs.OrderLemmas.{ascending-filter, ascending-rest, behind}

-- the counts of what waits
abbrev pub HasWaiters : List Command → List Waiter → List Waiter → Type 0
HasWaiters commands timed ready = (test : Command → Bool)
    → count_by (λ w. test w.command) timed + count_by (λ w. test w.command) ready ≡ count_by (λ c. waits commands c && test c) commands

-- what keeps a command back: it is blocked, or frames linger
kept-is : (life now : ℕ) (commands : List Command) (c : Command)
    → list_any (λ e. keeps_back life now e c) commands ≡ (is_blocked commands c || list_any (λ e. lingers life now c e) commands)
kept-is life now commands c =
    any-alike (λ e. keeps_back life now e c) (λ e. blocks c e || lingers life now c e) (λ e. grind arith) commands
    ∙ any-or (blocks c) (λ e. lingers life now c e) commands

twice : (b : Bool) → (not (not b) && true) ≡ b
twice true = refl
twice false = refl

module _ (life now : ℕ) (commands : List Command) where
  -- no frame lingers that a command waits for, and its ticket passes
  abbrev free : (ℕ → Bool) → Command → Bool
  free test c = not (list_any (λ e. lingers life now c e) commands) && test c.ticket.0

  -- as many clear commands pass a test as commands that wait for no frame
  clear-counted : (test : ℕ → Bool) → count_by test (clear_tickets life now commands) ≡ count_by (λ c. waits commands c && free test c) commands
  clear-counted test =
      count-map test (λ c. c.ticket.0) (filter (is_clear life now commands) commands)
      ∙ count-filter (λ c. test c.ticket.0) (is_clear life now commands) commands
      ∙ count-alike (λ c. is_clear life now commands c && test c.ticket.0) (λ c. waits commands c && free test c)
      (λ c. rw (kept-is life now commands c) (grind arith)) commands

  -- once all that is past was moved, the second queue has just the clear commands
  ready-counted : (timed ready : List Waiter) → HasWaiters commands timed ready → All (Knows life now commands) timed → All (Knows life now commands) ready
      → All (λ w. now < w.from) timed → All (λ w. w.from ≡ 0) ready
      → (test : ℕ → Bool) → count_by test (map ticket_of ready) ≡ count_by test (clear_tickets life now commands)
  ready-counted timed ready same knows_timed knows_ready late past test =
      let none = all-none (λ (w : Waiter). free test w.command) timed (λ k d below.
      rw (knows_timed k d below now (omega arith), lt-leb (get_or timed k d).from now (late k d below)) refl) in
      let all = count-agree (λ (w : Waiter). free test w.command) (λ w. test (ticket_of w)) ready (λ k d below.
      rw (knows_ready k d below now (omega arith), le-leb (get_or ready k d).from now (omega (arith, past k d below))) refl) in
      omega (arith, count-map test ticket_of ready, clear-counted test, same (free test), none, all)

  -- as many commands are clear as stand in the second queue or are past their time in the first
  pub clear-length : (timed ready : List Waiter) → HasWaiters commands timed ready → All (Knows life now commands) timed → All (Knows life now commands) ready
      → All (λ w. w.from ≡ 0) ready
      → length (clear_tickets life now commands) ≡ count_by (λ w. nat_le w.from now) timed + length ready
  clear-length timed ready same knows_timed knows_ready past =
      let any : ℕ → Bool = λ n. true in
      let past_time = count-agree (λ (w : Waiter). free any w.command) (λ w. nat_le w.from now) timed (λ k d below.
      rw (knows_timed k d below now (omega arith)) (twice (nat_le (get_or timed k d).from now))) in
      let all = count-agree (λ (w : Waiter). free any w.command) (λ w. true) ready (λ k d below.
      rw (knows_ready k d below now (omega arith), le-leb (get_or ready k d).from now (omega (arith, past k d below))) refl) in
      omega (
        arith,
        count-all (clear_tickets life now commands),
        clear-counted any,
        same (free any),
        past_time,
        all,
        count-all ready,
      )

-- the first of those that wait is past its time where one is
sooner : (now : ℕ) (v w : Waiter) → before (rank_of v) (rank_of w) ≡ false → nat_le w.from now ≡ false → nat_le v.from now ≡ false
sooner now v w out late = grind (arith, nat_tests)

pub first-past : (now : ℕ) (timed : List Waiter) (w : Waiter) → IsInOrder timed → slice_get timed 0 ≡ Some w
    → nat_lt 0 (count_by (λ v. nat_le v.from now) timed) ≡ nat_le w.from now
first-past now [] w order is = absurd cc
first-past now (v ∷ timed) w order is =
    let test : Waiter → Bool = λ x. nat_le x.from now in
    let same : v ≡ w = cc in
    elim (cases_Bool (nat_le v.from now)) [
      | inl past ↦ lt-ltb 0 _ (omega (arith, count-yes test v timed past)) ∙ sym past ∙ ap test same
      | inr late ↦
          let none = all-none test timed (λ k d below. sooner now (get_or timed k d) v (order.0 k d below) late) in
          ap (λ (n : ℕ). nat_lt 0 n) (count-no test v timed late ∙ none) ∙ sym late ∙ ap test same
    ]

pub none-past : (now : ℕ) (timed : List Waiter) → now < 2 ^ 64 → slice_get timed 0 ≡ None
    → nat_lt 0 (count_by (λ v. nat_le v.from now) timed) ≡ nat_le 340282366920938463463374607431768211455 now
none-past now [] small is = sym (lt-leb 340282366920938463463374607431768211455 now (omega (arith, small)))
none-past now (v ∷ timed) small is = absurd cc

pub some-ready : (n now : ℕ) (ready : List Waiter) (w : Waiter) → Some w ≡ slice_get ready 0 → nat_lt 0 (n + length ready) ≡ nat_le 0 now
some-ready n now [] w is = absurd cc
some-ready n now (v ∷ ready) w is = lt-ltb 0 _ (omega arith) ∙ sym (le-leb 0 now (omega arith))

pub none-ready : (n : ℕ) (ready : List Waiter) → None ≡ slice_get ready 0 → n + length ready ≡ n
none-ready n [] is = omega arith
none-ready n (v ∷ ready) is = absurd cc

-- numbers that don't fall
abbrev pub Rises : List ℕ → Type 0
Rises [] = ⊤
Rises (x ∷ xs) = All (λ y. x ≤ y) xs × Rises xs

no-less : (x y : ℕ) (xs ys : List ℕ) → Rises (y ∷ ys) → ((test : ℕ → Bool) → count_by test (x ∷ xs) ≡ count_by test (y ∷ ys)) → y ≤ x
no-less x y xs ys up same =
    let low : ℕ → Bool = λ n. nat_lt n y in
    let least = All-cons (λ n. low n ≡ false) y ys (le-ltb y y (omega arith)) (λ k d below. le-ltb (get_or ys k d) y (up.0 k d below)) in
    ltb-false x y (none-all low (x ∷ xs) (same low ∙ all-none low (y ∷ ys) least) 0 x (omega arith))

-- lists of numbers that don't fall are the same where as many of both pass each test
same-rising : (xs ys : List ℕ) → Rises xs → Rises ys → ((test : ℕ → Bool) → count_by test xs ≡ count_by test ys) → xs ≡ ys
same-rising [] [] up on same = refl
same-rising [] (y ∷ ys) up on same = absurd (omega (arith, same (λ _. true), count-all (y ∷ ys)))
same-rising (x ∷ xs) [] up on same = absurd (omega (arith, same (λ _. true), count-all (x ∷ xs)))
same-rising (x ∷ xs) (y ∷ ys) up on same =
    let first : x ≡ y = omega (arith, no-less x y xs ys on same, no-less y x ys xs up (λ test. sym (same test))) in
    let bit : (ℕ → Bool) → ℕ → ℕ = λ test n. cond (test n) 1 0 in
    let rest = same-rising xs ys up.1 on.1 (λ test. omega (arith, same test, count-cons test x xs, count-cons test y ys, ap (bit test) first)) in
    rw (first, rest) refl

-- at the same time one that isn't before another has no lower ticket
no-lower : (a b : Waiter) → before (rank_of a) (rank_of b) ≡ false → a.from ≡ b.from → ticket_of b ≤ ticket_of a
no-lower a b out same = grind (arith, nat_tests)

ready-rises : (ready : List Waiter) → IsInOrder ready → All (λ w. w.from ≡ 0) ready → Rises (map ticket_of ready)
ready-rises [] order past = tt
ready-rises (w ∷ ready) order past =
    let rest : All (λ v. v.from ≡ 0) ready = λ k d below. past (suc k) d (omega arith) in (
      All-map (λ n. ticket_of w ≤ n) ticket_of ready (λ k d below.
          no-lower (get_or ready k d) w (order.0 k d below) (rest k d below ∙ sym (past 0 w (omega arith)))),
      ready-rises ready order.1 rest,
    )

tickets-rise : (commands : List Command) → is_ascending commands ≡ true → Rises (map (λ c. c.ticket.0) commands)
tickets-rise [] up = tt
tickets-rise (c ∷ commands) up = (
  All-map (λ n. c.ticket.0 ≤ n) (λ (d : Command). d.ticket.0) commands (λ k d below. omega (arith, behind c commands up k d below)),
  tickets-rise commands (ascending-rest c commands up),
)

pub clear-rises : (life now : ℕ) (commands : List Command) → is_ascending commands ≡ true → Rises (clear_tickets life now commands)
clear-rises life now commands up = tickets-rise (filter (is_clear life now commands) commands) (ascending-filter (is_clear life now commands) commands up)

pub ready-is : (life now : ℕ) (commands : List Command) (timed ready : List Waiter) → is_ascending commands ≡ true
    → HasWaiters commands timed ready → All (Knows life now commands) timed → All (Knows life now commands) ready
    → All (λ w. now < w.from) timed → All (λ w. w.from ≡ 0) ready → IsInOrder ready → map ticket_of ready ≡ clear_tickets life now commands
ready-is life now commands timed ready up same knows_timed knows_ready late past order =
    same-rising _ _ (ready-rises ready order past) (clear-rises life now commands up)
    (ready-counted life now commands timed ready same knows_timed knows_ready late past)

-- ---- the first of numbers that don't fall

pub head-contained : (xs : List ℕ) (first : Option Ticket) → option_map (λ t. t.0) first ≡ slice_get xs 0 → IfSome first (λ t. Contains xs t.0)
head-contained xs None is = tt
head-contained [] (Some t) is = absurd cc
head-contained (x ∷ xs) (Some t) is = (0, omega arith, cc)

pub head-lowest : (xs : List ℕ) (first : Option Ticket) → option_map (λ t. t.0) first ≡ slice_get xs 0 → Rises xs
    → IfSome first (λ t. All (λ other. t.0 ≤ other) xs)
head-lowest xs None is up = tt
head-lowest [] (Some t) is up = absurd cc
head-lowest (x ∷ xs) (Some t) is up = let same : t.0 ≡ x = cc in rw same (All-cons (λ other. x ≤ other) x xs (omega arith) up.0)

pub head-missing : (xs : List ℕ) (first : Option Ticket) → option_map (λ t. t.0) first ≡ slice_get xs 0 → IfNone first (xs ≡ [])
head-missing xs (Some t) is = tt
head-missing [] None is = refl
head-missing (x ∷ xs) None is = absurd cc

pub head-ticket : (ready : List Waiter)
    → option_map (λ t. t.0) (option_map (λ w. w.command.ticket) (slice_get ready 0)) ≡ slice_get (map ticket_of ready) 0
head-ticket [] = refl
head-ticket (w ∷ ready) = refl
