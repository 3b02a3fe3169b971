-- The place of a command by its ticket, and the queues where it may stand.
use Rattle.std.proofs.Common.{ℕ, ◌≡◌, ◌+◌, ◌<◌, ◌≤◌, ◌&&◌, cond, Bool, true, false, List, [], ◌∷◌, length, get_or, Option, Some, None, inl, inr, refl, sym, ◌∙◌, arith, nat_eq, nat_lt, suc}
use Rattle.std.specs.Prelude.{is_none, position, All, IfSome}
use Rattle.std.specs.List.{count_by, filter, AllWithin}
use Rattle.std.specs.List.Sorted.{IsPartitionedBy}
use Rattle.std.proofs.lemmas.Bool.{cases_Bool, cases_lt, le-ltb, lt-ltb, ltb-false, ltb-true, ne_eqb}
use Rattle.std.proofs.lemmas.Bool.Decides.{nat_tests}
use Rattle.std.proofs.lemmas.List.Sums.{position_or_len_is}
use Rattle.aoe_hold.specs.declared.command.Command.{Command}
use Rattle.aoe_hold.specs.declared.queue.Waiter.{Waiter}
use Rattle.aoe_hold.specs.Commands.{is_unsent}
use Rattle.aoe_hold.specs.HoldTable.{is_ascending}
use Rattle.aoe_hold.specs.Queue.{has_ticket}
use Rattle.aoe_base.proofs.CountLemmas.{all-none, count-cons, none-all}
use Rattle.aoe_hold.proofs.HeldLemmas.{HasAll}
use Rattle.aoe_hold.proofs.IndexLemmas.{keeps}
use Rattle.aoe_hold.proofs.ListLemmas.{none-any}
use Rattle.aoe_hold.proofs.OrderLemmas.{ascending-at, ascending-rest, others-behind, others-missing}
use Rattle.aoe_hold.proofs.StageLemmas.{one-at, StandsAt}

-- the lower tickets stand in front
pub tickets-parted : (ticket : ℕ) (commands : List Command) → is_ascending commands ≡ true → IsPartitionedBy (λ c. nat_lt c.ticket.0 ticket) commands
tickets-parted ticket commands up i j d le within passes = elim (cases_lt i j) [
  | inl before ↦ lt-ltb _ _ (omega (arith, ascending-at commands i j d up before within, ltb-true _ _ passes))
  | inr after ↦ let same : i ≡ j = omega arith in rw same passes
]

lower-other : (n ticket : ℕ) → nat_lt n ticket ≡ true → nat_eq n ticket ≡ false
lower-other n ticket lower = grind (arith, nat_tests)

module _ (ticket at : ℕ) (commands : List Command) (lower : AllWithin (λ c. nat_lt c.ticket.0 ticket ≡ true) commands 0 at) where
  pub place-found : (c : Command) → at < length commands → c ≡ get_or commands at c → nat_eq c.ticket.0 ticket ≡ true
      → Some at ≡ position (λ c. nat_eq c.ticket.0 ticket) commands
  place-found c within read here =
      let is = position_or_len_is (λ (d : Command). nat_eq d.ticket.0 ticket) commands at c (omega arith)
      (λ k below. lower-other _ _ (lower k c (omega arith) below)) (λ _. rw (← read) here) in
      rw (is, lt-ltb at (length commands) within)

  pub place-none : (d : Command) → is_ascending commands ≡ true → AllWithin (λ c. nat_lt c.ticket.0 ticket ≡ false) commands at (length commands)
      → (at < length commands → nat_eq (get_or commands at d).ticket.0 ticket ≡ false) → None ≡ position (λ c. nat_eq c.ticket.0 ticket) commands
  place-none d up higher here =
      let is = position_or_len_is (λ (c : Command). nat_eq c.ticket.0 ticket) commands (length commands) d (omega arith) each
      (λ within. absurd (omega arith)) in
      rw (is, le-ltb (length commands) (length commands) (omega arith))
    where
      each : (k : ℕ) → k < length commands → nat_eq (get_or commands k d).ticket.0 ticket ≡ false
      each k within = elim (cases_lt k at) [
        | inl before ↦ lower-other _ _ (lower k d (omega arith) before)
        | inr from ↦ elim (cases_lt at k) [
          | inl after ↦
              let first = ltb-false _ _ (higher at d (omega arith) (omega arith)) in
              let above = ascending-at commands at k d up after within in
              ne_eqb _ _ (λ same. absurd (omega arith))
          | inr there ↦ let same : k ≡ at = omega arith in rw same (here (omega arith))
        ]
      ]

-- one command alone has a ticket
tickets-once : (ticket : ℕ) (commands : List Command) → is_ascending commands ≡ true → count_by (λ c. nat_eq c.ticket.0 ticket) commands ≤ 1
tickets-once ticket [] up = omega arith
tickets-once ticket (c ∷ commands) up =
    let rest = tickets-once ticket commands (ascending-rest c commands up) in
    elim (cases_Bool (nat_eq c.ticket.0 ticket)) [
      | inl is ↦
          let none = all-none (λ d. nat_eq d.ticket.0 ticket) commands (others-behind ticket c commands up is) in
          rw (count-cons (λ d. nat_eq d.ticket.0 ticket) c commands, is) (omega (arith, none))
      | inr other ↦ rw (count-cons (λ d. nat_eq d.ticket.0 ticket) c commands, other) (omega arith)
    ]

count-fewer : (p q : Command → Bool) (xs : List Command) → count_by (λ c. p c && q c) xs ≤ count_by q xs
count-fewer p q [] = omega arith
count-fewer p q (x ∷ xs) = grind (arith, count-cons (λ c. p c && q c) x xs, count-cons q x xs, count-fewer p q xs)

-- so many with this ticket stand in the queues
abbrev pub standing : ℕ → List Waiter → List Waiter → List Waiter → ℕ
standing ticket timed ready blocked = count_by (has_ticket ticket) timed + count_by (has_ticket ticket) ready + count_by (has_ticket ticket) blocked

-- a command stands once in the queues, where it wasn't sent
pub leaves-once : {ticket i : ℕ} {commands : List Command} {command : Command} (timed ready blocked : List Waiter) (fresh : Bool)
    → StandsAt ticket commands i command → HasAll commands timed ready blocked → fresh ≡ is_unsent command
    → standing ticket timed ready blocked ≤ cond fresh 1 0
leaves-once {ticket} {i} {commands} timed ready blocked fresh at all is =
    let p : Command → Bool = λ c. nat_eq c.ticket.0 ticket in
    elim (cases_Bool fresh) [
      | inl unsent ↦ rw unsent (omega (arith, all p, count-fewer is_unsent p commands, tickets-once ticket commands at.up))
      | inr sent ↦
          let out = none-any (λ e. p e && is_unsent e) commands (one-at at is_unsent ∙ sym is ∙ sent) in
          let none = all-none (λ c. is_unsent c && p c) commands (λ k d below. grind (arith, out k d below)) in
          rw sent (omega (arith, all p, none))
    ]

pub filter-same : {X : Type 0} (p : X → Bool) (xs : List X) → All (λ x. p x ≡ true) xs → xs ≡ filter p xs
filter-same p [] all = refl
filter-same p (x ∷ xs) all = rw (all 0 x (omega arith), ← filter-same p xs (λ k d below. all (suc k) d (omega arith)))

-- those with this ticket left the queues
abbrev pub HaveLeft : ℕ → List Waiter → List Waiter → List Waiter → List Waiter → List Waiter → List Waiter → Type 0
HaveLeft ticket timed ready blocked timed_new ready_new blocked_new =
    (timed_new ≡ filter (keeps ticket) timed) × (ready_new ≡ filter (keeps ticket) ready) × (blocked_new ≡ filter (keeps ticket) blocked)

stays-none : (ticket : ℕ) (waiters : List Waiter) → count_by (has_ticket ticket) waiters ≡ 0 → waiters ≡ filter (keeps ticket) waiters
stays-none ticket waiters none = filter-same (keeps ticket) waiters (λ k d below. rw (none-all (has_ticket ticket) waiters none k d below))

pub leaves-none : (ticket : ℕ) (timed ready blocked : List Waiter) → standing ticket timed ready blocked ≤ 0
    → HaveLeft ticket timed ready blocked timed ready blocked
leaves-none ticket timed ready blocked none =
    (stays-none ticket timed (omega arith), stays-none ticket ready (omega arith), stays-none ticket blocked (omega arith))

-- where the first has the ticket, it has it alone
pub leaves-first : (ticket : ℕ) (first : Option Waiter) (old ready timed blocked : List Waiter) → is_none first ≡ false
    → IfSome first (λ w. (nat_eq w.command.ticket.0 ticket ≡ true) × (old ≡ w ∷ ready)) → standing ticket timed old blocked ≤ 1
    → HaveLeft ticket timed old blocked timed ready blocked
leaves-first ticket None old ready timed blocked found is once = absurd cc
leaves-first ticket (Some w) old ready timed blocked found is once =
    let whole : count_by (has_ticket ticket) old ≡ 1 + count_by (has_ticket ticket) ready = rw (is.1, count-cons (has_ticket ticket) w ready, is.0) in
    let rest = leaves-none ticket timed ready blocked (omega arith) in
    (rest.0, rw (is.1, is.0) rest.1, rest.2)

-- one that isn't held stands in no queue
pub leaves-missing : (ticket : ℕ) (commands : List Command) (timed ready blocked : List Waiter) → HasAll commands timed ready blocked
    → position (λ c. nat_eq c.ticket.0 ticket) commands ≡ None → HaveLeft ticket timed ready blocked timed ready blocked
leaves-missing ticket commands timed ready blocked all missing =
    let p : Command → Bool = λ c. nat_eq c.ticket.0 ticket in
    let none = all-none p commands (others-missing p commands missing) in
    leaves-none ticket timed ready blocked (omega (arith, all p, none, count-fewer is_unsent p commands))
