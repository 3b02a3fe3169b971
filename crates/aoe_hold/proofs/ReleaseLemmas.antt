-- The commands that wait, after one ended.
use Rattle.std.proofs.Common.{ℕ, ◌≡◌, ◌&&◌, ◌||◌, get_or, true, false, List, ◌∙◌, arith, nat_eq}
use Rattle.std.specs.Prelude.{All}
use Rattle.aoe_hold.specs.declared.command.Command.{Command}
use Rattle.aoe_hold.specs.declared.queue.Waiter.{Waiter}
use Rattle.aoe_hold.specs.Commands.{after_stage, is_unsent, stage_finished, with_stage}
use Rattle.aoe_hold.specs.Queue.{blocks, is_blocked, lingers, Knows}
use Rattle.aoe_hold.proofs.ListLemmas.{any-alike, any-kept, any-map, any-or, none-any}
use Rattle.aoe_hold.proofs.StageLemmas.{one-at, StandsAt}

abbrev pub ends : ℕ → Command → Command
ends ticket c = with_stage ticket stage_finished c

-- what is finished stays so
blocks-ended : (ticket : ℕ) (c e : Command) → blocks c e ≡ (blocks c (ends ticket e) || (nat_eq e.ticket.0 ticket && blocks c e))
blocks-ended ticket c e = grind arith

-- a command that was never sent is left as it is
pub same-unsent : (ticket : ℕ) (c : Command) → is_unsent c ≡ true → ends ticket c ≡ c
same-unsent ticket c is = grind arith

pub never-unsent : (ticket : ℕ) (c : Command) → is_unsent c ≡ false → is_unsent (ends ticket c) ≡ false
never-unsent ticket c is = grind arith

-- frames of a command that just ended keep back none that waited before
lingers-ended : (life now ticket : ℕ) (c e : Command) → blocks c e ≡ false → lingers life now c (ends ticket e) ≡ lingers life now c e
lingers-ended life now ticket c e free = grind arith

pub blocked-ended : {ticket i : ℕ} {commands : List Command} {ended : Command} (c : Command) → StandsAt ticket commands i ended
    → is_blocked commands c ≡ (is_blocked (after_stage ticket stage_finished commands) c || blocks c ended)
blocked-ended {ticket} {i} {commands} c at =
    any-alike (blocks c) (λ x. blocks c (ends ticket x) || (nat_eq x.ticket.0 ticket && blocks c x)) (blocks-ended ticket c) commands
    ∙ any-or (λ x. blocks c (ends ticket x)) (λ x. nat_eq x.ticket.0 ticket && blocks c x) commands
    ∙ rw (one-at at (blocks c), any-map (blocks c) (ends ticket) commands)

pub knows-ended : (life latest ticket : ℕ) (commands : List Command) (waiters : List Waiter) → All (λ w. is_blocked commands w.command ≡ false) waiters
    → All (Knows life latest commands) waiters → All (Knows life latest (after_stage ticket stage_finished commands)) waiters
knows-ended life latest ticket commands waiters free knows = λ k d below now later.
    let c = (get_or waiters k d).command in
    let open_each = none-any (blocks c) commands (free k d below) in
    any-kept (λ e. lingers life now c e) (ends ticket) commands (λ j e within. lingers-ended life now ticket c _ (open_each j e within))
    ∙ knows k d below now later
