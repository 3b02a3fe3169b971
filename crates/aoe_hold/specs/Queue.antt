-- Commands that wait, in the order of what they wait for.
use Rattle.std.specs.Prelude.{ℕ, ◌≡◌, ◌+◌, ◌<◌, ◌≤◌, ◌&&◌, Bool, cond, true, false, not, length, take, List, nat_eq, nat_le, nat_lt, All}
use Rattle.std.specs.List.{count_by, list_any, AllWithin}
use Rattle.aoe_sorted.specs.Order.{AreInOrder, SortedTable}
use Rattle.aoe_sorted.specs.declared.rank.Rank.{Rank}
use Rattle.aoe_hold.specs.declared.command.Command.{Command}
use Rattle.aoe_hold.specs.declared.queue.Keeper.{Keeper}
use Rattle.aoe_hold.specs.declared.queue.Keeper.TheVariants.{Blocker, Clear}
use Rattle.aoe_hold.specs.declared.queue.Waiter.{Waiter}
use Rattle.aoe_hold.specs.Commands.{all_gone, comes_first, finished, has_effect, is_past, is_unsent, rests_on_effects}

abbrev pub QueueTable : Type 0
QueueTable = SortedTable Waiter

abbrev pub ticket_of : Waiter → ℕ
ticket_of w = w.command.ticket.0

-- what a command waits for, and its ticket
abbrev pub rank_of : Waiter → Rank
rank_of w = record { at = w.from; tie = ticket_of w; rest = 0 }

abbrev pub has_ticket : ℕ → Waiter → Bool
has_ticket ticket w = nat_eq w.command.ticket.0 ticket

abbrev pub IsInOrder : List Waiter → Type 0
IsInOrder waiters = AreInOrder rank_of waiters

-- an earlier command in conflict isn't finished
abbrev pub blocks : Command → Command → Bool
blocks later earlier = comes_first earlier later && not (finished earlier.stage)

abbrev pub is_blocked : List Command → Command → Bool
is_blocked commands c = list_any (blocks c) commands

-- frames of an earlier command in conflict, which is finished, can still change what the later one rests on
abbrev pub lingers : ℕ → ℕ → Command → Command → Bool
lingers life now later earlier =
    comes_first earlier later && has_effect earlier.kind && rests_on_effects later.kind
    && finished earlier.stage && not (all_gone life now earlier.stage)

-- a command was never sent, and no earlier one in conflict is unfinished
abbrev pub waits : List Command → Command → Bool
waits commands c = is_unsent c && not (is_blocked commands c)

-- from its time on no frame can arrive that a command waits for
abbrev pub Knows : ℕ → ℕ → List Command → Waiter → Type 0
Knows life latest commands w = (now : ℕ) → latest ≤ now → list_any (λ e. lingers life now w.command e) commands ≡ not (nat_le w.from now)

-- the two queues have just the commands that wait, each with its time; in the second this is past
pub record IsIndex (life latest unsent : ℕ) (commands : List Command) (timed ready : QueueTable) : Type 0 where
  pub same : (test : Command → Bool) → count_by (λ w. test w.command) timed.items + count_by (λ w. test w.command) ready.items
      ≡ count_by (λ c. waits commands c && test c) commands
  pub knows_timed : All (Knows life latest commands) timed.items
  pub knows_ready : All (Knows life latest commands) ready.items
  pub past : All (λ w. w.from ≡ 0) ready.items
  pub timed_room : unsent ≤ timed.room
  pub ready_room : unsent ≤ ready.room

-- no unfinished command in conflict is among those that pass the test, and from the time on no frame can arrive of one of them that a command waits for;
-- before it one can
pub record IsFree (life from : ℕ) (test : Command → Bool) (commands : List Command) (c : Command) : Type 0 where
  pub free : list_any (λ e. test e && blocks c e) commands ≡ false
  pub some : (now : ℕ) → now < from → list_any (λ e. lingers life now c e) commands ≡ true
  pub none : (now : ℕ) → from ≤ now → list_any (λ e. test e && lingers life now c e) commands ≡ false

-- what keeps a command back among those that pass the test: an earlier one in conflict that is unfinished; or else frames
abbrev pub IsKeeperOf : ℕ → (Command → Bool) → List Command → Command → Keeper → Type 0
IsKeeperOf life test commands c (Blocker ticket) = list_any (λ e. nat_eq e.ticket.0 ticket.0 && blocks c e) commands ≡ true
IsKeeperOf life test commands c (Clear from) = IsFree life from test commands c

-- the same among all
abbrev pub IsKeeper : ℕ → ℕ → List Command → Command → Keeper → Type 0
IsKeeper life latest commands c (Blocker ticket) = list_any (λ e. nat_eq e.ticket.0 ticket.0 && blocks c e) commands ≡ true
IsKeeper life latest commands c (Clear from) = (is_blocked commands c ≡ false) × Knows life latest commands (record { command = c; from = from })

-- what a command waits for is the ticket of an earlier one in conflict that is unfinished
abbrev pub IsHeldBy : List Command → Waiter → Type 0
IsHeldBy commands w = list_any (λ e. nat_eq e.ticket.0 w.from && blocks w.command e) commands ≡ true

-- a command ended that this one waited for
abbrev pub waited_for : Command → Waiter → Bool
waited_for ended w = nat_eq w.from ended.ticket.0 && finished ended.stage

-- each command that was never sent stands in one of the queues, once, and in the last one with a command that it waits for
pub record AreHeld (unsent : ℕ) (commands : List Command) (timed ready blocked : QueueTable) : Type 0 where
  pub all : (test : Command → Bool) → count_by (λ w. test w.command) timed.items + count_by (λ w. test w.command) ready.items + count_by
      (λ w. test w.command) blocked.items
      ≡ count_by (λ c. is_unsent c && test c) commands
  pub held : All (IsHeldBy commands) blocked.items
  pub room : unsent ≤ blocked.room

-- what keeps a command back stands from the one place on and ahead of the other: the commands in front are past, and those behind aren't earlier
pub record AreOutside (life latest first until : ℕ) (commands : List Command) (c : Command) : Type 0 where
  pub within : until ≤ length commands
  pub past : All (λ e. is_past life latest e ≡ true) (take first commands)
  pub later : AllWithin (λ e. nat_lt e.ticket.0 c.ticket.0 ≡ false) commands until (length commands)

-- commands whose time was past were moved from the first queue to the second
pub record Moved (now : ℕ) (old_timed old_ready timed ready : QueueTable) : Type 0 where
  pub same : (test : Command → Bool) → count_by (λ w. test w.command) timed.items + count_by (λ w. test w.command) ready.items
      ≡ count_by (λ w. test w.command) old_timed.items + count_by (λ w. test w.command) old_ready.items
  pub knows : (life : ℕ) (commands : List Command) → All (Knows life now commands) old_timed.items → All (Knows life now commands) old_ready.items
      → All (Knows life now commands) timed.items × All (Knows life now commands) ready.items
  pub past : All (λ w. w.from ≡ 0) old_ready.items → All (λ w. w.from ≡ 0) ready.items
  pub timed_room : timed.room ≡ old_timed.room
  pub ready_room : ready.room ≡ old_ready.room

-- a command was queued by what keeps it back
pub record Queued (life latest : ℕ) (commands : List Command) (c : Command) (old_timed old_blocked new_timed new_blocked : QueueTable) : Type 0 where
  pub timed : (test : Command → Bool) → count_by (λ w. test w.command) new_timed.items
      ≡ cond (not (is_blocked commands c) && test c) 1 0 + count_by (λ w. test w.command) old_timed.items
  pub blocked : (test : Command → Bool) → count_by (λ w. test w.command) new_blocked.items
      ≡ cond (is_blocked commands c && test c) 1 0 + count_by (λ w. test w.command) old_blocked.items
  pub knows : All (Knows life latest commands) old_timed.items → All (Knows life latest commands) new_timed.items
  pub held : (skip : Waiter → Bool) → All (λ w. skip w ≡ false → IsHeldBy commands w) old_blocked.items
      → All (λ w. skip w ≡ false → IsHeldBy commands w) new_blocked.items
  pub after : (ended : Command) → ((d : Command) → list_any (λ e. nat_eq e.ticket.0 ended.ticket.0 && blocks d e) commands ≡ false)
      → count_by (waited_for ended) new_blocked.items ≡ count_by (waited_for ended) old_blocked.items
  pub timed_room : new_timed.room ≡ old_timed.room
  pub blocked_room : new_blocked.room ≡ old_blocked.room

-- the commands that waited for an ended one were queued anew
pub record Released (life latest : ℕ) (commands : List Command) (ended : Command) (old_timed old_blocked timed blocked : QueueTable) : Type 0 where
  pub all : (test : Command → Bool) → count_by (λ w. test w.command) timed.items + count_by (λ w. test w.command) blocked.items
      ≡ count_by (λ w. test w.command) old_timed.items + count_by (λ w. test w.command) old_blocked.items
  pub free : count_by (λ w. is_blocked commands w.command) timed.items ≡ count_by (λ w. is_blocked commands w.command) old_timed.items
  pub knows : All (Knows life latest commands) old_timed.items → All (Knows life latest commands) timed.items
  pub held : All (λ w. waited_for ended w ≡ false → IsHeldBy commands w) old_blocked.items
      → All (λ w. waited_for ended w ≡ false → IsHeldBy commands w) blocked.items
  pub timed_room : timed.room ≡ old_timed.room
  pub blocked_room : blocked.room ≡ old_blocked.room
