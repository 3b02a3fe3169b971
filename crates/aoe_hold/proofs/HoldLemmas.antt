-- The queues of a table after each change of its commands.
use Rattle.std.proofs.Common.{ℕ, ◌≡◌, ◌+◌, ◌-◌, ◌<◌, ◌≤◌, not, true, false, List, [], ◌∷◌, ◌++◌, length, map, Option, inl, inr, refl, ap, ◌∙◌, arith, nat_eq, nat_le, Bool, ◌&&◌}
use Rattle.std.specs.Prelude.{All}
use Rattle.std.specs.List.{count_by, filter}
use Rattle.std.specs.Option.{ForSome}
use Rattle.std.proofs.lemmas.Bool.{cases_Bool}
use Rattle.std.proofs.lemmas.List.{length-map}
use Rattle.std.proofs.lemmas.List.Elements.{All-filter}
use Rattle.aoe_base.specs.declared.counted.Millis.{Millis}
use Rattle.aoe_hold.specs.declared.command.Command.{Command}
use Rattle.aoe_hold.specs.declared.command.Stage.TheVariants.{Unsent}
use Rattle.aoe_hold.specs.declared.queue.Waiter.{Waiter}
use Rattle.aoe_hold.specs.Commands.{after_stage, clear_tickets, live, stage_finished, stage_sent, unsent_count}
use Rattle.aoe_hold.specs.HoldTable.{is_ascending, is_up_to}
use Rattle.aoe_hold.specs.Queue.{is_blocked, ticket_of, waited_for, AreHeld, IsHeldBy, IsInOrder, IsIndex, Knows, Moved, Queued, QueueTable, Released}
use Rattle.aoe_base.proofs.CountLemmas.{all-none, count-all, none-all}
use Rattle.aoe_hold.proofs.HeldLemmas.{all-sent, free-ended, held-blocked, held-ended, held-live, held-pushed, held-sent, unsent-all, unsent-ended, unsent-entered, waiters-all, HasAll}
use Rattle.aoe_hold.proofs.IndexLemmas.{bit, entered-waits, keeps, knows-entered, knows-live, knows-sent, sent-waits, waiters-few, waiters-free}
use Rattle.aoe_hold.proofs.ReleaseLemmas.{ends, knows-ended}
use Rattle.aoe_hold.proofs.StageLemmas.{StandsAt}
use Rattle.aoe_hold.proofs.WaitLemmas.{clear-length, ready-is}

-- ---- there is no more in the queues than was never sent

pub index-few : {life latest unsent : ℕ} {commands : List Command} {timed ready : QueueTable} → unsent ≡ unsent_count commands
    → IsIndex life latest unsent commands timed ready → length timed.items + length ready.items ≤ unsent
index-few {life} {latest} {unsent} {commands} {timed} {ready} is index = omega (arith, waiters-few commands timed.items ready.items index.same)

pub held-few : {unsent : ℕ} {commands : List Command} {timed ready blocked : QueueTable} → unsent ≡ unsent_count commands
    → AreHeld unsent commands timed ready blocked → length timed.items + length ready.items + length blocked.items ≡ unsent
held-few {unsent} {commands} {timed} {ready} {blocked} is held =
    omega (arith, held.all (λ _. true), count-all timed.items, count-all ready.items, count-all blocked.items, unsent-all commands)

-- ---- the queues get more room

pub index-reserved : {life latest unsent : ℕ} {commands : List Command} {timed ready : QueueTable} (timed_new ready_new : QueueTable)
    → timed_new.items ≡ timed.items → ready_new.items ≡ ready.items → timed.room ≤ timed_new.room → ready.room ≤ ready_new.room
    → IsIndex life latest unsent commands timed ready → IsIndex life latest unsent commands timed_new ready_new
index-reserved timed_new ready_new timed_is ready_is timed_more ready_more index = record {
  same = rw (timed_is, ready_is) index.same;
  knows_timed = rw timed_is index.knows_timed;
  knows_ready = rw ready_is index.knows_ready;
  past = rw ready_is index.past;
  timed_room = omega (arith, index.timed_room);
  ready_room = omega (arith, index.ready_room);
}

pub held-reserved : {unsent : ℕ} {commands : List Command} {timed ready blocked : QueueTable} (timed_new ready_new blocked_new : QueueTable)
    → timed_new.items ≡ timed.items → ready_new.items ≡ ready.items → blocked_new.items ≡ blocked.items → blocked.room ≤ blocked_new.room
    → AreHeld unsent commands timed ready blocked → AreHeld unsent commands timed_new ready_new blocked_new
held-reserved timed_new ready_new blocked_new timed_is ready_is blocked_is more held = record {
  all = rw (timed_is, ready_is, blocked_is) held.all;
  held = rw blocked_is held.held;
  room = omega (arith, held.room);
}

-- ---- a command is entered

module _ {life latest : ℕ} {commands : List Command} {c : Command} {timed blocked timed_new blocked_new : QueueTable}
    (queued : Queued life latest (live life latest commands) c timed blocked timed_new blocked_new) (fresh : c.stage ≡ Unsent) where
  pub index-entered : {unsent : ℕ} {ready : QueueTable} (greatest : Option ℕ) → is_up_to greatest commands ≡ true → ForSome greatest (λ g. g < c.ticket.0)
      → unsent + 1 ≤ timed.room → unsent + 1 ≤ ready.room
      → IsIndex life latest unsent commands timed ready → IsIndex life latest (unsent + 1) (live life latest commands ++ c ∷ []) timed_new ready
  index-entered {unsent} {ready} greatest up above timed_room ready_room index = record {
    same = entered-waits life latest commands c fresh greatest timed.items timed_new.items ready.items up above queued.timed index.same;
    knows_timed = knows-entered life latest _ c timed_new.items fresh (queued.knows (knows-live life latest commands timed.items index.knows_timed));
    knows_ready = knows-entered life latest _ c ready.items fresh (knows-live life latest commands ready.items index.knows_ready);
    past = index.past;
    timed_room = omega (arith, queued.timed_room);
    ready_room = ready_room;
  }

  pub held-entered : {unsent : ℕ} {ready : QueueTable} → unsent + 1 ≤ blocked.room → AreHeld unsent commands timed ready blocked
      → AreHeld (unsent + 1) (live life latest commands ++ c ∷ []) timed_new ready blocked_new
  held-entered {unsent} {ready} enough held =
      let before = held-live life latest commands blocked.items held.held in
      let now = queued.held (λ _. false) (λ k d below _. before k d below) in
      record {
        all = λ test. omega (
          arith,
          held.all test,
          queued.timed test,
          queued.blocked test,
          split (is_blocked (live life latest commands) c) (test c),
          unsent-entered life latest commands c fresh test,
        );
        held = held-pushed _ c blocked_new.items (λ k d below. now k d below refl);
        room = omega (arith, queued.blocked_room);
      }
    where
      split : (b t : Bool) → bit (not b && t) + bit (b && t) ≡ bit t
      split b t = grind arith

-- ---- a frame of a command is sent

pub index-sent : {life latest unsent : ℕ} {commands : List Command} {timed ready : QueueTable} (less ticket : ℕ) (now : Millis)
    (timed_new ready_new : QueueTable)
    → latest ≤ now.0 → less ≤ unsent → timed_new.items ≡ filter (keeps ticket) timed.items → ready_new.items ≡ filter (keeps ticket) ready.items
    → timed_new.room ≡ timed.room → ready_new.room ≡ ready.room
    → IsIndex life latest unsent commands timed ready → IsIndex life now.0 less (after_stage ticket (stage_sent now) commands) timed_new ready_new
index-sent {life} {latest} {unsent} {commands} {timed} {ready} less ticket now timed_new ready_new later fewer timed_is ready_is timed_room ready_room index =
    let known : Waiter → Type 0 = Knows life latest commands in
    record {
      same = rw (timed_is, ready_is) (sent-waits ticket now commands timed.items ready.items index.same);
      knows_timed = knows-sent life latest ticket now commands _ later (rw timed_is (All-filter (keeps ticket) known timed.items index.knows_timed));
      knows_ready = knows-sent life latest ticket now commands _ later (rw ready_is (All-filter (keeps ticket) known ready.items index.knows_ready));
      past = rw ready_is (All-filter (keeps ticket) (λ w. w.from ≡ 0) ready.items index.past);
      timed_room = omega (arith, index.timed_room);
      ready_room = omega (arith, index.ready_room);
    }

pub held-gone : {unsent : ℕ} {commands : List Command} {timed ready blocked : QueueTable} (less ticket : ℕ) (now : Millis)
    (timed_new ready_new blocked_new : QueueTable)
    → less ≤ unsent → timed_new.items ≡ filter (keeps ticket) timed.items → ready_new.items ≡ filter (keeps ticket) ready.items
    → blocked_new.items ≡ filter (keeps ticket) blocked.items → blocked_new.room ≡ blocked.room
    → AreHeld unsent commands timed ready blocked → AreHeld less (after_stage ticket (stage_sent now) commands) timed_new ready_new blocked_new
held-gone {unsent} {commands} {timed} {ready} {blocked} less ticket now timed_new ready_new blocked_new fewer timed_is ready_is blocked_is room held = record {
  all = rw (timed_is, ready_is, blocked_is) (all-sent ticket now commands timed.items ready.items blocked.items held.all);
  held = held-sent ticket now commands _ (rw blocked_is (All-filter (keeps ticket) (IsHeldBy commands) blocked.items held.held));
  room = omega (arith, held.room);
}

-- ---- a command ended

pub index-ended : {life latest unsent ticket i : ℕ} {commands : List Command} {ended new : Command} {timed ready blocked timed_new blocked_new : QueueTable}
    → StandsAt ticket commands i ended → new ≡ ends ticket ended
    → Released life latest (after_stage ticket stage_finished commands) new timed blocked timed_new blocked_new
    → All (λ w. waited_for new w ≡ false) blocked_new.items
    → IsIndex life latest unsent commands timed ready → AreHeld unsent commands timed ready blocked
    → IsIndex life latest unsent (after_stage ticket stage_finished commands) timed_new ready
    × AreHeld unsent (after_stage ticket stage_finished commands) timed_new ready blocked_new
index-ended {life} {latest} {unsent} {ticket} {i} {commands} {ended} {new} {timed} {ready} {blocked} {timed_new} {blocked_new} at is r none index all_held =
    let after = after_stage ticket stage_finished commands in
    let free = waiters-free commands timed.items ready.items index.same in
    let free_new = none-all (λ (w : Waiter). is_blocked after w.command) timed_new.items
    (r.free ∙ all-none (λ w. is_blocked after w.command) timed.items (free-ended at timed.items free.0)) in
    let rest = r.held (held-ended at new blocked.items is all_held.held) in
    let held : All (IsHeldBy after) blocked_new.items = λ k d below. rest k d below (none k d below) in
    let all : HasAll after timed_new.items ready.items blocked_new.items =
    λ test. omega (arith, all_held.all test, r.all test, unsent-ended ticket commands test) in (
      record {
        same = waiters-all after timed_new.items ready.items blocked_new.items all free_new (free-ended at ready.items free.1)
            (held-blocked after blocked_new.items held);
        knows_timed = r.knows (knows-ended life latest ticket commands timed.items free.0 index.knows_timed);
        knows_ready = knows-ended life latest ticket commands ready.items free.1 index.knows_ready;
        past = index.past;
        timed_room = omega (arith, index.timed_room, r.timed_room);
        ready_room = index.ready_room;
      },
      record { all = all; held = held; room = omega (arith, all_held.room, r.blocked_room) },
    )

-- ---- what waited long enough moves to the second queue

pub held-moved : {now unsent : ℕ} {commands : List Command} {timed ready blocked timed_new ready_new : QueueTable} → Moved now timed ready timed_new ready_new
    → AreHeld unsent commands timed ready blocked → AreHeld unsent commands timed_new ready_new blocked
held-moved moved held = record { all = λ test. omega (arith, moved.same test, held.all test); held = held.held; room = held.room }

pub index-moved : {life latest now unsent : ℕ} {commands : List Command} {timed ready timed_new ready_new : QueueTable} → latest ≤ now
    → Moved now timed ready timed_new ready_new → IsIndex life latest unsent commands timed ready → IsIndex life now unsent commands timed_new ready_new
index-moved {life} {latest} {now} {unsent} {commands} later moved index =
    let knows = moved.knows life commands (λ k d below t from. index.knows_timed k d below t (omega arith))
    (λ k d below t from. index.knows_ready k d below t (omega arith)) in
    record {
      same = λ test. moved.same test ∙ index.same test;
      knows_timed = knows.0;
      knows_ready = knows.1;
      past = moved.past index.past;
      timed_room = omega (arith, index.timed_room, moved.timed_room);
      ready_room = omega (arith, index.ready_room, moved.ready_room);
    }

pub index-ready : {life now unsent : ℕ} {commands : List Command} {timed ready : QueueTable} → is_ascending commands ≡ true
    → IsIndex life now unsent commands timed ready → All (λ w. now < w.from) timed.items → IsInOrder ready.items
    → map ticket_of ready.items ≡ clear_tickets life now commands
index-ready {life} {now} {unsent} {commands} {timed} {ready} up index late order =
    ready-is life now commands timed.items ready.items up index.same index.knows_timed index.knows_ready late index.past order

pub index-clear : {life latest unsent : ℕ} {commands : List Command} {timed ready : QueueTable} (now : ℕ) → latest ≤ now
    → IsIndex life latest unsent commands timed ready
    → length (clear_tickets life now commands) ≡ count_by (λ w. nat_le w.from now) timed.items + length ready.items
index-clear {life} {latest} {unsent} {commands} {timed} {ready} now later index =
    clear-length life now commands timed.items ready.items index.same (λ k d below t from. index.knows_timed k d below t (omega (arith, later, from)))
    (λ k d below t from. index.knows_ready k d below t (omega (arith, later, from))) index.past

pub tickets-filter : (ticket : ℕ) (waiters : List Waiter)
    → map ticket_of (filter (keeps ticket) waiters) ≡ filter (λ other. not (nat_eq other ticket)) (map ticket_of waiters)
tickets-filter ticket [] = refl
tickets-filter ticket (w ∷ waiters) = elim (cases_Bool (nat_eq (ticket_of w) ticket)) [
  | inl same ↦ rw same (tickets-filter ticket waiters)
  | inr other ↦ rw (other, tickets-filter ticket waiters)
]

-- at most two steps beside those that moved a command
pub steps-few : (before after first : ℕ) (old ready : List Waiter) (clear : List ℕ) → map ticket_of ready ≡ clear
    → first + length old ≡ before + 1 + length ready
    → after ≡ first + 1 → after ≤ before + 2 + (length clear - length (map ticket_of old))
steps-few before after first old ready clear is moved last =
    omega (arith, length-map old ticket_of, length-map ready ticket_of, ap (λ (l : List ℕ). length l) is)
