-- The commands that wait, after each change of the commands.
use Rattle.std.proofs.Common.{ℕ, ◌≡◌, ◌+◌, ◌<◌, ◌≤◌, ◌&&◌, not, cond, get_or, Bool, true, false, List, [], ◌∷◌, ◌++◌, length, Option, inl, inr, refl, sym, ◌∙◌, arith, nat_eq}
use Rattle.std.specs.Prelude.{All}
use Rattle.std.specs.List.{count_by, filter}
use Rattle.std.specs.Option.{ForSome}
use Rattle.std.proofs.lemmas.Bool.{cases_Bool, le-ltb, not-false}
use Rattle.std.proofs.lemmas.Bool.Decides.{nat_tests}
use Rattle.std.proofs.lemmas.List.Sums.{sum_by_push}
use Rattle.aoe_base.specs.declared.counted.Millis.{Millis}
use Rattle.aoe_base.proofs.CountLemmas.{all-none, count-agree, count-alike, count-all, count-filter, count-map, count-split, none-all}
use Rattle.aoe_hold.specs.declared.command.Command.{Command}
use Rattle.aoe_hold.specs.declared.command.Stage.{Stage}
use Rattle.aoe_hold.specs.declared.command.Stage.TheVariants.{Unsent}
use Rattle.aoe_hold.specs.declared.queue.Waiter.{Waiter}
use Rattle.aoe_hold.specs.Commands.{after_stage, is_past, is_unsent, live, stage_sent, unsent, unsent_count, with_stage}
use Rattle.aoe_hold.specs.HoldTable.{is_up_to}
use Rattle.aoe_hold.specs.Queue.{blocks, is_blocked, lingers, waits, Knows}
use Rattle.aoe_hold.proofs.ListLemmas.{any-kept, any-push, list_any-filter}
use Rattle.aoe_hold.proofs.OrderLemmas.{all-below}
use Rattle.aoe_hold.proofs.WaitLemmas.{HasWaiters}

abbrev pub bit : Bool → ℕ
bit b = cond b 1 0

-- no more wait than were never sent
pub waiters-few : (commands : List Command) (timed ready : List Waiter) → HasWaiters commands timed ready → length timed + length ready ≤ unsent_count commands
waiters-few commands timed ready same =
    let split = count-split is_unsent (λ c. waits commands c && true) (λ c. is_unsent c && is_blocked commands c) (λ c. grind arith) commands in
    omega (arith, same (λ _. true), count-all timed, count-all ready, split)

-- none that waits is blocked
pub waiters-free : (commands : List Command) (timed ready : List Waiter) → HasWaiters commands timed ready
    → All (λ w. is_blocked commands w.command ≡ false) timed × All (λ w. is_blocked commands w.command ≡ false) ready
waiters-free commands timed ready same =
    let none = all-none (λ c. waits commands c && is_blocked commands c) commands (λ k d below. grind arith) in
    let both = same (is_blocked commands) in (
      none-all (λ w. is_blocked commands w.command) timed (omega (arith, both, none)),
      none-all (λ w. is_blocked commands w.command) ready (omega (arith, both, none)),
    )

-- ---- commands that are past leave

pub past-blocks : (life latest : ℕ) (c e : Command) → is_past life latest e ≡ true → blocks c e ≡ false
past-blocks life latest c e is = grind arith

pub past-lingers : (life latest now : ℕ) (c e : Command) → latest ≤ now → is_past life latest e ≡ true → lingers life now c e ≡ false
past-lingers life latest now c e later is = grind (arith, nat_tests)

blocked-live : (life latest : ℕ) (commands : List Command) (c : Command) → is_blocked (live life latest commands) c ≡ is_blocked commands c
blocked-live life latest commands c =
    list_any-filter (λ e. not (is_past life latest e)) (blocks c) (λ e out. past-blocks life latest c e (not-false _ out)) commands

pub knows-live : (life latest : ℕ) (commands : List Command) (waiters : List Waiter) → All (Knows life latest commands) waiters
    → All (Knows life latest (live life latest commands)) waiters
knows-live life latest commands waiters knows = λ k d below now later.
    let c = (get_or waiters k d).command in
    list_any-filter (λ e. not (is_past life latest e)) (λ e. lingers life now c e)
    (λ e out. past-lingers life latest now c e later (not-false _ out)) commands
    ∙ knows k d below now later

-- ---- a command is entered

unsent-lingers : (life now : ℕ) (c e : Command) → e.stage ≡ Unsent → lingers life now c e ≡ false
unsent-lingers life now c e fresh = grind arith

pub knows-entered : (life latest : ℕ) (kept : List Command) (c : Command) (waiters : List Waiter) → c.stage ≡ Unsent
    → All (Knows life latest kept) waiters → All (Knows life latest (kept ++ c ∷ [])) waiters
knows-entered life latest kept c waiters fresh knows = λ k d below now later.
    let w = (get_or waiters k d).command in
    rw (any-push (λ e. lingers life now w e) kept c, unsent-lingers life now w c fresh, knows k d below now later) (grind arith)

module _ (life latest : ℕ) (commands : List Command) (c : Command) (fresh : c.stage ≡ Unsent) where
  abbrev after : List Command
  after = live life latest commands ++ c ∷ []

  blocked-after : (x : Command) → x.ticket.0 ≤ c.ticket.0 → is_blocked after x ≡ is_blocked (live life latest commands) x
  blocked-after x older = rw (any-push (blocks x) (live life latest commands) c, le-ltb _ _ older) (grind arith)

  entered-one : (test : Command → Bool) (x : Command) → x.ticket.0 ≤ c.ticket.0
      → (not (is_past life latest x) && (waits after x && test x)) ≡ (waits commands x && test x)
  entered-one test x older = rw (blocked-after x older ∙ blocked-live life latest commands x) (grind arith)

  pub entered-waits : (greatest : Option ℕ) (timed timed_after ready : List Waiter) → is_up_to greatest commands ≡ true
      → ForSome greatest (λ g. g < c.ticket.0)
      → ((test : Command → Bool) → count_by (λ w. test w.command) timed_after
      ≡ bit (not (is_blocked (live life latest commands) c) && test c) + count_by (λ w. test w.command) timed)
      → HasWaiters commands timed ready → HasWaiters after timed_after ready
  entered-waits greatest timed timed_after ready up above queued same test =
      let passes : Command → Bool = λ x. waits after x && test x in
      let last : bit (passes c) ≡ bit (not (is_blocked (live life latest commands) c) && test c) =
      rw (blocked-after c (omega arith), fresh) refl in
      let others = count-filter passes (λ x. not (is_past life latest x)) commands
      ∙ count-agree _ (λ x. waits commands x && test x) commands (λ k d below.
      entered-one test _ (omega (arith, all-below greatest c.ticket.0 commands above up k d below))) in
      omega (arith, queued test, same test, sum_by_push (λ x. bit (passes x)) (live life latest commands) c, others, last)

-- ---- a frame of a command is sent

pub sent-unsent : (now : Millis) (s : Stage) → unsent (stage_sent now s) ≡ false
sent-unsent now s = grind arith

pub blocks-sent : (ticket : ℕ) (now : Millis) (c e : Command) → blocks c (with_stage ticket (stage_sent now) e) ≡ blocks c e
blocks-sent ticket now c e = grind arith

lingers-sent : (life t ticket : ℕ) (now : Millis) (c e : Command) → lingers life t c (with_stage ticket (stage_sent now) e) ≡ lingers life t c e
lingers-sent life t ticket now c e = grind arith

pub knows-sent : (life latest ticket : ℕ) (now : Millis) (commands : List Command) (waiters : List Waiter) → latest ≤ now.0
    → All (Knows life latest commands) waiters → All (Knows life now.0 (after_stage ticket (stage_sent now) commands)) waiters
knows-sent life latest ticket now commands waiters later knows = λ k d below t from.
    let c = (get_or waiters k d).command in
    any-kept (λ e. lingers life t c e) (with_stage ticket (stage_sent now)) commands (λ j e within. lingers-sent life t ticket now c _)
    ∙ knows k d below t (omega arith)

abbrev pub keeps : ℕ → Waiter → Bool
keeps ticket w = not (nat_eq w.command.ticket.0 ticket)

pub sent-waits : (ticket : ℕ) (now : Millis) (commands : List Command) (timed ready : List Waiter) → HasWaiters commands timed ready
    → HasWaiters (after_stage ticket (stage_sent now) commands) (filter (keeps ticket) timed) (filter (keeps ticket) ready)
sent-waits ticket now commands timed ready same test =
    let other : Command → Bool = λ c. not (nat_eq c.ticket.0 ticket) && test c in
    let passes : Command → Bool = λ c. waits (after_stage ticket (stage_sent now) commands) c && test c in
    let count = count-filter (λ (w : Waiter). test w.command) (keeps ticket) in
    rw (count timed, count ready, count-map passes (with_stage ticket (stage_sent now)) commands)
    (same other ∙ sym (count-alike (λ c. passes (with_stage ticket (stage_sent now) c)) (λ c. waits commands c && other c) one commands))
  where
    blocked : (c : Command) → is_blocked (after_stage ticket (stage_sent now) commands) c ≡ is_blocked commands c
    blocked c = any-kept (blocks c) (with_stage ticket (stage_sent now)) commands (λ k d below. blocks-sent ticket now c _)

    one : (c : Command)
        → (waits (after_stage ticket (stage_sent now) commands) (with_stage ticket (stage_sent now) c) && test (with_stage ticket (stage_sent now) c))
        ≡ (waits commands c && (not (nat_eq c.ticket.0 ticket) && test c))
    one c = elim (cases_Bool (nat_eq c.ticket.0 ticket)) [
      | inl same ↦ rw (same, sent-unsent now c.stage) (grind arith)
      | inr other ↦ rw (other, blocked c) refl
    ]
