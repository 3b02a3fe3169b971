-- Commands in the order of their tickets.
use Rattle.std.proofs.Common.{ℕ, zero, suc, ◌≡◌, ◌<◌, Bool, true, false, List, [], ◌∷◌, ◌++◌, length, get_or, Option, Some, None, inl, inr, refl, ◌∙◌, arith, nat_eq, nat_lt, nat_le}
use Rattle.std.specs.Prelude.{position, All}
use Rattle.std.specs.List.{filter, list_all, position_or_len}
use Rattle.std.specs.Option.{ForSome}
use Rattle.std.proofs.lemmas.Bool.{and_from, and_parts, cases_Bool, cases_lt, eqb-true, le-leb, leb-true, lt-ltb, ltb-true, ne_eqb}
use Rattle.std.proofs.lemmas.List.Elements.{All-filter, All-push}
use Rattle.std.proofs.lemmas.List.Sums.{fails_before_first, AllPass-from_list_all, list_all-from_AllPass}
use Rattle.aoe_hold.specs.declared.command.Command.{Command}
use Rattle.aoe_hold.specs.declared.command.Stage.{Stage}
use Rattle.aoe_hold.specs.Commands.{after_stage, with_stage}
use Rattle.aoe_hold.specs.HoldTable.{is_ascending, is_up_to}

-- those behind a command have higher tickets
pub behind : (c : Command) (commands : List Command) → is_ascending (c ∷ commands) ≡ true → All (λ d. c.ticket.0 < d.ticket.0) commands
behind c commands up = λ k d below.
    ltb-true _ _ (AllPass-from_list_all (λ d. nat_lt c.ticket.0 d.ticket.0) commands (and_parts _ _ up).0 k d below)

pub ascending-rest : (c : Command) (commands : List Command) → is_ascending (c ∷ commands) ≡ true → is_ascending commands ≡ true
ascending-rest c commands up = (and_parts _ _ up).1

ascending-from : (c : Command) (commands : List Command) → All (λ d. c.ticket.0 < d.ticket.0) commands → is_ascending commands ≡ true
    → is_ascending (c ∷ commands) ≡ true
ascending-from c commands above up =
    and_from _ _ (list_all-from_AllPass (λ d. nat_lt c.ticket.0 d.ticket.0) commands (λ k d below. lt-ltb _ _ (above k d below))) up

pub ascending-at : (commands : List Command) (i j : ℕ) (d : Command) → is_ascending commands ≡ true → i < j → j < length commands
    → (get_or commands i d).ticket.0 < (get_or commands j d).ticket.0
ascending-at [] i j d up before within = absurd (omega arith)
ascending-at (c ∷ commands) i zero d up before within = absurd (omega arith)
ascending-at (c ∷ commands) zero (suc j) d up before within = behind c commands up j d (omega arith)
ascending-at (c ∷ commands) (suc i) (suc j) d up before within =
    ascending-at commands i j d (ascending-rest c commands up) (omega arith) (omega arith)

pub ascending-filter : (p : Command → Bool) (commands : List Command) → is_ascending commands ≡ true → is_ascending (filter p commands) ≡ true
ascending-filter p [] up = refl
ascending-filter p (c ∷ commands) up =
    let rest = ascending-filter p commands (ascending-rest c commands up) in
    elim (cases_Bool (p c)) [
      | inl stays ↦ rw stays (ascending-from c (filter p commands) (All-filter p (λ d. c.ticket.0 < d.ticket.0) commands (behind c commands up)) rest)
      | inr goes ↦ rw goes rest
    ]

pub up_to-filter : (p : Command → Bool) (greatest : Option ℕ) (commands : List Command) → is_up_to greatest commands ≡ true
    → is_up_to greatest (filter p commands) ≡ true
up_to-filter p None [] up = refl
up_to-filter p None (c ∷ commands) up = absurd cc
up_to-filter p (Some greatest) commands up =
    let most : Command → Bool = λ c. nat_le c.ticket.0 greatest in
    list_all-from_AllPass most _ (All-filter p (λ c. most c ≡ true) commands (AllPass-from_list_all most commands up))

pub ticket-kept : (ticket : ℕ) (change : Stage → Stage) (c : Command) → (with_stage ticket change c).ticket ≡ c.ticket
ticket-kept ticket change c = grind arith

-- a test of tickets alone
tickets-kept : (test : ℕ → Bool) (ticket : ℕ) (change : Stage → Stage) (commands : List Command)
    → list_all (λ c. test c.ticket.0) (after_stage ticket change commands) ≡ list_all (λ c. test c.ticket.0) commands
tickets-kept test ticket change [] = refl
tickets-kept test ticket change (c ∷ commands) = rw (ticket-kept ticket change c, tickets-kept test ticket change commands) refl

pub ascending-after_stage : (ticket : ℕ) (change : Stage → Stage) (commands : List Command) → is_ascending commands ≡ true
    → is_ascending (after_stage ticket change commands) ≡ true
ascending-after_stage ticket change [] up = refl
ascending-after_stage ticket change (c ∷ commands) up =
    let parts = and_parts (list_all (λ d. nat_lt c.ticket.0 d.ticket.0) commands) (is_ascending commands) up in
    rw (ticket-kept ticket change c, tickets-kept (nat_lt c.ticket.0) ticket change commands, parts.0) (ascending-after_stage ticket change commands parts.1)

pub up_to-after_stage : (ticket : ℕ) (change : Stage → Stage) (greatest : Option ℕ) (commands : List Command) → is_up_to greatest commands ≡ true
    → is_up_to greatest (after_stage ticket change commands) ≡ true
up_to-after_stage ticket change None [] up = refl
up_to-after_stage ticket change None (c ∷ commands) up = absurd cc
up_to-after_stage ticket change (Some greatest) commands up = tickets-kept (λ n. nat_le n greatest) ticket change commands ∙ up

pub all-below : (greatest : Option ℕ) (ticket : ℕ) (commands : List Command) → ForSome greatest (λ g. g < ticket) → is_up_to greatest commands ≡ true
    → All (λ c. c.ticket.0 < ticket) commands
all-below None ticket [] above up = λ k d below. absurd (omega arith)
all-below None ticket (c ∷ commands) above up = absurd cc
all-below (Some greatest) ticket commands above up = λ k d below.
    let least = leb-true _ _ (AllPass-from_list_all (λ c. nat_le c.ticket.0 greatest) commands up k d below) in
    omega (arith, least, above greatest refl)

ascending-push : (commands : List Command) (new : Command) → is_ascending commands ≡ true → All (λ c. c.ticket.0 < new.ticket.0) commands
    → is_ascending (commands ++ new ∷ []) ≡ true
ascending-push [] new up below = refl
ascending-push (c ∷ commands) new up below =
    ascending-from c (commands ++ new ∷ []) (All-push (λ d. c.ticket.0 < d.ticket.0) commands new (behind c commands up) (below 0 c (omega arith)))
    (ascending-push commands new (ascending-rest c commands up) (λ k d within. below (suc k) d (omega arith)))

pub enter-ascending : (greatest : Option ℕ) (commands : List Command) (new : Command) → is_ascending commands ≡ true → is_up_to greatest commands ≡ true
    → ForSome greatest (λ g. g < new.ticket.0) → is_ascending (commands ++ new ∷ []) ≡ true
enter-ascending greatest commands new up most above = ascending-push commands new up (all-below greatest new.ticket.0 commands above most)

pub enter-up_to : (greatest : Option ℕ) (commands : List Command) (new : Command) → is_up_to greatest commands ≡ true
    → ForSome greatest (λ g. g < new.ticket.0) → is_up_to (Some new.ticket.0) (commands ++ new ∷ []) ≡ true
enter-up_to greatest commands new most above =
    let lower = all-below greatest new.ticket.0 commands above most in
    list_all-from_AllPass _ _ (All-push (λ c. nat_le c.ticket.0 new.ticket.0 ≡ true) commands new
    (λ k d below. le-leb _ _ (omega (arith, lower k d below))) (le-leb _ _ (omega arith)))

-- ---- which commands have a ticket

pub others-behind : (ticket : ℕ) (c : Command) (commands : List Command) → is_ascending (c ∷ commands) ≡ true → nat_eq c.ticket.0 ticket ≡ true
    → All (λ d. nat_eq d.ticket.0 ticket ≡ false) commands
others-behind ticket c commands up here = λ k d below.
    ne_eqb _ _ (λ same. absurd (omega (arith, behind c commands up k d below, eqb-true _ _ here)))

pub others-missing : (p : Command → Bool) (commands : List Command) → position p commands ≡ None → All (λ c. p c ≡ false) commands
others-missing p commands missing = λ k d below. elim (cases_lt (position_or_len p commands) (length commands)) [
  | inl found ↦ let impossible = rw (lt-ltb _ _ found) at missing in absurd cc
  | inr past ↦ fails_before_first p commands k d (omega arith)
]
