-- The commands that wait for an unfinished one, after each change of the commands.
use Rattle.std.proofs.Common.{ℕ, ◌≡◌, ◌+◌, ◌&&◌, not, get_or, Bool, true, false, List, [], ◌∷◌, ◌++◌, inl, inr, refl, sym, ap, ◌∙◌, arith, nat_eq}
use Rattle.std.specs.Prelude.{All}
use Rattle.std.specs.List.{count_by, filter, list_any}
use Rattle.std.proofs.lemmas.Bool.{cases_Bool, eq-eqb, eqb-true, not-false, or_parts}
use Rattle.std.proofs.lemmas.Bool.Decides.{nat_tests}
use Rattle.std.proofs.lemmas.List.Sums.{sum_by_push}
use Rattle.aoe_base.specs.declared.counted.Millis.{Millis}
use Rattle.aoe_hold.specs.declared.command.Command.{Command}
use Rattle.aoe_hold.specs.declared.command.Stage.{Stage}
use Rattle.aoe_hold.specs.declared.command.Stage.TheVariants.{Unsent}
use Rattle.aoe_hold.specs.declared.queue.Waiter.{Waiter}
use Rattle.aoe_hold.specs.Commands.{after_stage, finished, is_past, is_unsent, live, stage_finished, stage_sent, unsent, unsent_count, with_stage}
use Rattle.aoe_hold.specs.Queue.{blocks, is_blocked, waited_for, waits, IsHeldBy}
use Rattle.aoe_base.proofs.CountLemmas.{all-none, count-agree, count-alike, count-filter, count-map}
use Rattle.aoe_hold.proofs.IndexLemmas.{bit, blocks-sent, keeps, past-blocks}
use Rattle.aoe_hold.proofs.ListLemmas.{any-alike, any-kept, any-map, any-push, any-weaker, count_by-filter, list_any-filter}
use Rattle.aoe_hold.proofs.LiveLemmas.{past-finished}
use Rattle.aoe_hold.proofs.OrderLemmas.{ticket-kept}
use Rattle.aoe_hold.proofs.ReleaseLemmas.{blocked-ended, ends, never-unsent, same-unsent}
use Rattle.aoe_hold.proofs.StageLemmas.{one-at, place-ticket, StandsAt}
use Rattle.aoe_hold.proofs.WaitLemmas.{HasWaiters}

-- each command that was never sent stands in one of the queues, once
abbrev pub HasAll : List Command → List Waiter → List Waiter → List Waiter → Type 0
HasAll commands timed ready blocked = (test : Command → Bool)
    → count_by (λ w. test w.command) timed + count_by (λ w. test w.command) ready + count_by (λ w. test w.command) blocked
    ≡ count_by (λ c. is_unsent c && test c) commands

pub held-blocked : (commands : List Command) (waiters : List Waiter) → All (IsHeldBy commands) waiters → All (λ w. is_blocked commands w.command ≡ true) waiters
held-blocked commands waiters held = λ k d below.
    let w = get_or waiters k d in
    any-weaker (λ e. nat_eq e.ticket.0 w.from) (blocks w.command) commands (held k d below)

pub unsent-all : (commands : List Command) → count_by (λ c. is_unsent c && true) commands ≡ unsent_count commands
unsent-all commands = count-alike (λ c. is_unsent c && true) is_unsent (λ c. grind arith) commands

-- those in front of which no earlier one is unfinished, by those that were never sent
pub waiters-all : (commands : List Command) (timed ready blocked : List Waiter) → HasAll commands timed ready blocked
    → All (λ w. is_blocked commands w.command ≡ false) timed → All (λ w. is_blocked commands w.command ≡ false) ready
    → All (λ w. is_blocked commands w.command ≡ true) blocked → HasWaiters commands timed ready
waiters-all commands timed ready blocked all free_timed free_ready held test =
    let free : Command → Bool = λ c. not (is_blocked commands c) && test c in
    let same = λ (waiters : List Waiter) (out : All (λ w. is_blocked commands w.command ≡ false) waiters).
    count-agree (λ w. free w.command) (λ w. test w.command) waiters (λ k d below. rw (out k d below) refl) in
    let none = all-none (λ (w : Waiter). free w.command) blocked (λ k d below. rw (held k d below) refl) in
    let whole = count-alike (λ c. waits commands c && test c) (λ c. is_unsent c && free c) (λ c. grind arith) commands in
    omega (arith, all free, same timed free_timed, same ready free_ready, none, whole)

-- ---- a command is entered, and those that are past leave

pub held-live : (life latest : ℕ) (commands : List Command) (waiters : List Waiter) → All (IsHeldBy commands) waiters
    → All (IsHeldBy (live life latest commands)) waiters
held-live life latest commands waiters held = λ k d below.
    let w = get_or waiters k d in
    list_any-filter (λ e. not (is_past life latest e)) (λ e. nat_eq e.ticket.0 w.from && blocks w.command e)
    (λ e out. rw (past-blocks life latest w.command e (not-false _ out)) (grind arith)) commands
    ∙ held k d below

pub held-pushed : (kept : List Command) (c : Command) (waiters : List Waiter) → All (IsHeldBy kept) waiters → All (IsHeldBy (kept ++ c ∷ [])) waiters
held-pushed kept c waiters held = λ k d below.
    let w = get_or waiters k d in
    rw (any-push (λ e. nat_eq e.ticket.0 w.from && blocks w.command e) kept c, held k d below) refl

pub unsent-entered : (life latest : ℕ) (commands : List Command) (c : Command) → c.stage ≡ Unsent → (test : Command → Bool)
    → count_by (λ x. is_unsent x && test x) (live life latest commands ++ c ∷ []) ≡ count_by (λ x. is_unsent x && test x) commands + bit (test c)
unsent-entered life latest commands c fresh test =
    let p : Command → Bool = λ x. is_unsent x && test x in
    let here : bit (p c) ≡ bit (test c) = rw fresh refl in
    let others = count_by-filter (λ x. not (is_past life latest x)) p
    (λ x out. rw (past-finished life latest x.stage (not-false _ out)).2 refl) commands in
    omega (arith, here, others, sum_by_push (λ x. bit (p x)) (live life latest commands) c)

-- ---- a frame of a command is sent

pub held-sent : (ticket : ℕ) (now : Millis) (commands : List Command) (waiters : List Waiter) → All (IsHeldBy commands) waiters
    → All (IsHeldBy (after_stage ticket (stage_sent now) commands)) waiters
held-sent ticket now commands waiters held = λ k d below.
    let w = get_or waiters k d in
    any-kept (λ e. nat_eq e.ticket.0 w.from && blocks w.command e) (with_stage ticket (stage_sent now)) commands
    (λ j e within. rw (blocks-sent ticket now w.command (get_or commands j e), ticket-kept ticket (stage_sent now) (get_or commands j e)))
    ∙ held k d below

pub all-sent : (ticket : ℕ) (now : Millis) (commands : List Command) (timed ready blocked : List Waiter) → HasAll commands timed ready blocked
    → HasAll (after_stage ticket (stage_sent now) commands) (filter (keeps ticket) timed) (filter (keeps ticket) ready) (filter (keeps ticket) blocked)
all-sent ticket now commands timed ready blocked all test =
    let sent = with_stage ticket (stage_sent now) in
    let other : Command → Bool = λ c. not (nat_eq c.ticket.0 ticket) && test c in
    let count = count-filter (λ (w : Waiter). test w.command) (keeps ticket) in
    rw (count timed, count ready, count blocked, count-map (λ c. is_unsent c && test c) sent commands)
    (all other ∙ sym (count-alike (λ c. is_unsent (sent c) && test (sent c)) (λ c. is_unsent c && other c) (λ c. grind arith) commands))

-- ---- a command ended

pub unsent-ended : (ticket : ℕ) (commands : List Command) (test : Command → Bool)
    → count_by (λ c. is_unsent c && test c) (after_stage ticket stage_finished commands) ≡ count_by (λ c. is_unsent c && test c) commands
unsent-ended ticket commands test =
    count-map (λ c. is_unsent c && test c) (ends ticket) commands
    ∙ count-alike (λ c. is_unsent (ends ticket c) && test (ends ticket c)) (λ c. is_unsent c && test c) one commands
  where
    one : (c : Command) → (is_unsent (ends ticket c) && test (ends ticket c)) ≡ (is_unsent c && test c)
    one c = elim (cases_Bool (is_unsent c)) [
      | inl fresh ↦ rw (same-unsent ticket c fresh) refl
      | inr sent ↦ rw (never-unsent ticket c sent, sent) refl
    ]

fresh-stage : (s : Stage) → finished (stage_finished s) ≡ false → unsent s ≡ true
fresh-stage s out = grind arith

held-elsewhere : (ticket from : ℕ) (commands : List Command) (c : Command) → nat_eq from ticket ≡ false
    → list_any (λ e. nat_eq e.ticket.0 from && blocks c e) commands ≡ true
    → list_any (λ e. nat_eq e.ticket.0 from && blocks c e) (after_stage ticket stage_finished commands) ≡ true
held-elsewhere ticket from commands c other held =
    any-kept (λ e. nat_eq e.ticket.0 from && blocks c e) (ends ticket) commands (λ k d below. one (get_or commands k d)) ∙ held
  where
    one : (e : Command) → (nat_eq (ends ticket e).ticket.0 from && blocks c (ends ticket e)) ≡ (nat_eq e.ticket.0 from && blocks c e)
    one e = grind (arith, nat_tests)

module _ {ticket i : ℕ} {commands : List Command} {ended : Command} (at : StandsAt ticket commands i ended) where
  pub free-ended : (waiters : List Waiter) → All (λ w. is_blocked commands w.command ≡ false) waiters
      → All (λ w. is_blocked (after_stage ticket stage_finished commands) w.command ≡ false) waiters
  free-ended waiters free = λ k d below.
      let w = get_or waiters k d in
      (or_parts _ (blocks w.command ended) (sym (blocked-ended w.command at) ∙ free k d below)).0

  -- what holds of the command with the ticket, which one alone has
  ended-any : (p : Command → Bool) → list_any (λ e. nat_eq e.ticket.0 ticket && p e) (after_stage ticket stage_finished commands) ≡ p (ends ticket ended)
  ended-any p =
      any-map (λ x. nat_eq x.ticket.0 ticket && p x) (ends ticket) commands
      ∙ any-alike _ (λ x. nat_eq x.ticket.0 ticket && p (ends ticket x)) (λ x. rw (ticket-kept ticket stage_finished x) refl) commands
      ∙ one-at at (λ x. p (ends ticket x))

  pub ended-done : (new c : Command) → new ≡ ends ticket ended → finished new.stage ≡ true
      → list_any (λ e. nat_eq e.ticket.0 ticket && blocks c e) (after_stage ticket stage_finished commands) ≡ false
  ended-done new c is done = ended-any (blocks c) ∙ rw (← is, done) (grind arith)

  held-there : (c : Command) → finished (ends ticket ended).stage ≡ false
      → list_any (λ e. nat_eq e.ticket.0 ticket && blocks c e) commands ≡ true
      → list_any (λ e. nat_eq e.ticket.0 ticket && blocks c e) (after_stage ticket stage_finished commands) ≡ true
  held-there c open_yet held =
      let fresh : is_unsent ended ≡ true = fresh-stage ended.stage (rw (eq-eqb _ _ (place-ticket at)) at open_yet) in
      ended-any (blocks c) ∙ ap (blocks c) (same-unsent ticket ended fresh) ∙ sym (one-at at (blocks c)) ∙ held

  pub held-ended : (new : Command) (waiters : List Waiter) → new ≡ ends ticket ended → All (IsHeldBy commands) waiters
      → All (λ w. waited_for new w ≡ false → IsHeldBy (after_stage ticket stage_finished commands) w) waiters
  held-ended new waiters is held = λ k d below out.
      let w = get_or waiters k d in
      let its : new.ticket.0 ≡ ticket = rw (is, ticket-kept ticket stage_finished ended) (place-ticket at) in
      elim (cases_Bool (nat_eq w.from ticket)) [
        | inl same ↦
            let from : w.from ≡ ticket = eqb-true _ _ same in
            let open_yet : finished new.stage ≡ false = rw (its, same) at out in
            rw from (held-there w.command (rw is at open_yet) (rw from at (held k d below)))
        | inr other ↦ held-elsewhere ticket w.from commands w.command other (held k d below)
      ]
