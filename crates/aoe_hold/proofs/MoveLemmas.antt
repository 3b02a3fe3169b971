-- Commands are moved from one queue to the other.
use Rattle.std.proofs.Common.{ℕ, zero, suc, ◌≡◌, ◌+◌, ◌-◌, ◌<◌, ◌≤◌, ◌&&◌, ◌||◌, not, get_or, Bool, true, false, List, ◌∷◌, length, drop, drop-cons, max, Option, Some, None, inl, inr, refl, sym, ◌∙◌, arith, nat_eq, nat_le}
use Rattle.std.specs.Prelude.{All, IfNone}
use Rattle.std.specs.List.{count_by, list_any}
use Rattle.std.specs.List.Sorted.{IsPermutation}
use Rattle.std.proofs.lemmas.Bool.{cases_lt, eq-eqb, le-leb, ne_eqb, true≢false}
use Rattle.std.proofs.lemmas.Bool.Decides.{nat_tests}
use Rattle.std.proofs.lemmas.List.{get_or_default}
use Rattle.std.proofs.lemmas.List.Elements.{All-cons, All-head, All-tail}
use Rattle.std.proofs.lemmas.List.Sorted.{length_permutation, sum_by_popped, sum_by_pushed, All-permutation}
use Rattle.aoe_base.proofs.CountLemmas.{count-all, count-cons}
use Rattle.aoe_hold.specs.declared.command.Command.{Command}
use Rattle.aoe_hold.specs.declared.command.Kind.TheVariants.{Read}
use Rattle.aoe_hold.specs.declared.command.Stage.TheVariants.{Unsent}
use Rattle.aoe_hold.specs.declared.queue.Waiter.{Waiter}
use Rattle.aoe_hold.proofs.IndexLemmas.{bit}
use Rattle.aoe_hold.specs.Commands.{finished}
use Rattle.aoe_hold.specs.Queue.{blocks, is_blocked, lingers, waited_for, IsHeldBy, Knows, Moved, Queued, QueueTable, Released}

knows-moved : (life now : ℕ) (commands : List Command) (w : Waiter) → w.from ≤ now → Knows life now commands w
    → Knows life now commands (record w { from = 0 })
knows-moved life now commands w le knows = λ t later. rw (knows t later, le-leb w.from t (omega arith), le-leb 0 t (omega arith))

pub moved-more : {now : ℕ} {timed0 ready0 timed ready : QueueTable} (timed1 ready1 : QueueTable) (w : Waiter) → Moved now timed0 ready0 timed ready
    → timed.items ≡ w ∷ timed1.items → w.from ≤ now → IsPermutation (record w { from = 0 } ∷ ready.items) ready1.items
    → timed1.room ≡ timed.room → ready1.room ≡ ready.room → Moved now timed0 ready0 timed1 ready1
moved-more {now} {timed0} {ready0} {timed} {ready} timed1 ready1 w m timed_is le ready_is timed_room ready_room =
    let moved : Waiter = record w { from = 0 } in
    record {
      same = λ test.
          let p : Waiter → Bool = λ v. test v.command in
          let left : count_by p timed.items ≡ bit (test w.command) + count_by p timed1.items = rw timed_is (count-cons p w timed1.items) in
          omega (arith, m.same test, left, sum_by_pushed (λ v. bit (p v)) moved ready.items ready1.items ready_is);
      knows = λ life commands a b.
          let P : Waiter → Type 0 = Knows life now commands in
          let before = m.knows life commands a b in
          let timed_all : All P (w ∷ timed1.items) = rw timed_is at before.0 in (
            All-tail P w timed1.items timed_all,
            All-permutation P (moved ∷ ready.items) ready1.items ready_is
                (All-cons P moved ready.items (knows-moved life now commands w le (All-head P w timed1.items timed_all)) before.1),
          );
      past = λ is.
          let P : Waiter → Type 0 = λ v. v.from ≡ 0 in
          All-permutation P (moved ∷ ready.items) ready1.items ready_is (All-cons P moved ready.items refl (m.past is));
      timed_room = timed_room ∙ m.timed_room;
      ready_room = ready_room ∙ m.ready_room;
    }

pub none-late : {X : Type 0} (now : ℕ) (waiters : List Waiter) (r : Option X) → IfNone r (length waiters ≡ 0) → IfNone r (All (λ w. now < w.from) waiters)
none-late now waiters (Some w) none = tt
none-late now waiters None none = λ k d below. absurd (omega arith)

-- the time from which no frame of the commands so far lingers, and of one more
pub lingers-more : (life : ℕ) (commands : List Command) (c : Command) (left from more next : ℕ) (d : Command) → next ≡ max from more
    → 0 < left → left ≤ length commands
    → ((now : ℕ) → list_any (λ e. lingers life now c e) (drop left commands) ≡ not (nat_le from now))
    → ((now : ℕ) → lingers life now c (get_or commands (left - 1) d) ≡ not (nat_le more now))
    → (now : ℕ) → list_any (λ e. lingers life now c e) (drop (left - 1) commands) ≡ not (nat_le next now)
lingers-more life commands c zero from more next d next_is some within so_far one now = absurd (omega arith)
lingers-more life commands c (suc i) from more next d next_is some within so_far one now =
    let same : suc i - 1 ≡ i = omega arith in
    let here = rw same at (one now) in
    rw (same, drop-cons commands i d (omega arith), here, so_far now, next_is) later
  where
    later : (not (nat_le more now) || not (nat_le from now)) ≡ not (nat_le (max from more) now)
    later = grind (arith, nat_tests)

-- the same, where nothing was taken out
pub released-same : {life latest : ℕ} {commands : List Command} {ended : Command} {old_timed old_blocked timed blocked : QueueTable} (same : QueueTable)
    → same.items ≡ blocked.items → same.room ≡ blocked.room
    → Released life latest commands ended old_timed old_blocked timed blocked → Released life latest commands ended old_timed old_blocked timed same
released-same same is room r =
    record { all = rw is r.all; free = r.free; knows = r.knows; held = rw is r.held; timed_room = r.timed_room; blocked_room = room ∙ r.blocked_room }

module _ {life latest : ℕ} {commands : List Command} {ended : Command} {old_timed old_blocked timed blocked : QueueTable} {one : QueueTable} {w : Waiter}
    (r : Released life latest commands ended old_timed old_blocked timed blocked) (is : IsPermutation blocked.items (w ∷ one.items))
    (room : one.room ≡ blocked.room) where
  -- there is room for one that was taken out
  pub released-room : length old_timed.items + length old_blocked.items ≤ old_timed.room
      → length old_timed.items + length old_blocked.items ≤ old_blocked.room
      → (length timed.items < timed.room) × (length one.items < one.room)
  released-room timed_enough blocked_enough =
      let longer = length_permutation blocked.items (w ∷ one.items) is in
      let total : length timed.items + length blocked.items ≡ length old_timed.items + length old_blocked.items =
      omega (arith, r.all (λ _. true), count-all timed.items, count-all blocked.items, count-all old_timed.items, count-all old_blocked.items) in
      (omega (arith, r.timed_room), omega (arith, r.blocked_room))

  -- one was taken out and queued anew
  pub released-more : {timed_new blocked_new : QueueTable} → Queued life latest commands w.command timed one timed_new blocked_new
      → Released life latest commands ended old_timed old_blocked timed_new blocked_new
  released-more queued = record {
    all = λ test.
        let split = either (is_blocked commands w.command) (test w.command) in
        let taken = sum_by_popped (λ v. bit (test v.command)) w blocked.items one.items is in
        omega (arith, r.all test, queued.timed test, queued.blocked test, split, taken);
    free = let none = apart (is_blocked commands w.command) in omega (arith, r.free, queued.timed (is_blocked commands), none);
    knows = λ all. queued.knows (r.knows all);
    held = λ all.
        let P : Waiter → Type 0 = λ v. waited_for ended v ≡ false → IsHeldBy commands v in
        queued.held (waited_for ended) (All-tail P w one.items (All-permutation P blocked.items (w ∷ one.items) is (r.held all)));
    timed_room = queued.timed_room ∙ r.timed_room;
    blocked_room = queued.blocked_room ∙ room ∙ r.blocked_room;
  }
    where
      either : (b t : Bool) → bit (not b && t) + bit (b && t) ≡ bit t
      either b t = grind arith

      apart : (b : Bool) → bit (not b && b) ≡ 0
      apart b = grind arith

-- fewer wait for the ended one
pub released-fewer : (ended : Command) (w : Waiter) (blocked one new : List Waiter) → IsPermutation blocked (w ∷ one) → w.from ≡ ended.ticket.0
    → finished ended.stage ≡ true → count_by (waited_for ended) new ≡ count_by (waited_for ended) one
    → count_by (waited_for ended) new < count_by (waited_for ended) blocked
released-fewer ended w blocked one new is from done same =
    let here : bit (waited_for ended w) ≡ 1 = rw (eq-eqb w.from ended.ticket.0 from, done) in
    omega (arith, here, sum_by_popped (λ v. bit (waited_for ended v)) w blocked one is)

-- what stands where a list has none
abbrev pub none_command : Command
none_command = record { ticket = record { 0 = 0 }; kind = Read; span = record { at = 0; count = 0 }; stage = Unsent }

-- going back, one more isn't an unfinished one in conflict
pub none-more : (commands : List Command) (c : Command) (left until : ℕ) (e : Command) → 0 < left → left ≤ length commands
    → blocks c (get_or commands (left - 1) e) ≡ false
    → ((k : ℕ) (d : Command) → left ≤ k → k < until → blocks c (get_or commands k d) ≡ false)
    → (k : ℕ) (d : Command) → left - 1 ≤ k → k < until → blocks c (get_or commands k d) ≡ false
none-more commands c left until e some within out rest k d from below = elim (cases_lt k left) [
  | inl before ↦ let same : k ≡ left - 1 = omega arith in rw (same, get_or_default commands (left - 1) d e (omega arith)) out
  | inr after ↦ rest k d after below
]

-- one that waits for a command doesn't wait for one that ended
pub not-waited : (commands : List Command) (c ended : Command) (from : ℕ) → list_any (λ e. nat_eq e.ticket.0 from && blocks c e) commands ≡ true
    → list_any (λ e. nat_eq e.ticket.0 ended.ticket.0 && blocks c e) commands ≡ false → nat_eq from ended.ticket.0 ≡ false
not-waited commands c ended from held out = ne_eqb _ _ (λ same. true≢false (sym (rw (← same) held) ∙ out))
