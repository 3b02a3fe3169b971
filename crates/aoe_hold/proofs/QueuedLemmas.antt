-- A command is queued by what keeps it back.
use Rattle.std.proofs.Common.{ℕ, ◌≡◌, ◌&&◌, not, true, false, List, ◌∷◌, refl, arith, nat_eq}
use Rattle.std.specs.List.Sorted.{IsPermutation}
use Rattle.std.proofs.lemmas.List.Elements.{All-cons}
use Rattle.std.proofs.lemmas.List.Sorted.{sum_by_pushed, All-permutation}
use Rattle.aoe_hold.specs.declared.command.Command.{Command}
use Rattle.aoe_hold.specs.declared.queue.Waiter.{Waiter}
use Rattle.aoe_hold.specs.Queue.{blocks, is_blocked, waited_for, IsHeldBy, Knows, Queued, QueueTable}
use Rattle.aoe_hold.proofs.IndexLemmas.{bit}
use Rattle.aoe_hold.proofs.ListLemmas.{any-weaker}
use Rattle.aoe_hold.proofs.MoveLemmas.{not-waited}

module _ (life latest : ℕ) (commands : List Command) (w : Waiter) (old new other : QueueTable) (is : IsPermutation (w ∷ old.items) new.items)
    (room : new.room ≡ old.room) where
  -- under one that it waits for
  pub queued-blocked : IsHeldBy commands w → Queued life latest commands w.command other old other new
  queued-blocked under =
      let held : is_blocked commands w.command ≡ true = any-weaker (λ e. nat_eq e.ticket.0 w.from) (blocks w.command) commands under in
      record {
        timed = λ test. let out : bit (not (is_blocked commands w.command) && test w.command) ≡ 0 = rw held in omega (arith, out);
        blocked = λ test. rw held (sum_by_pushed (λ v. bit (test v.command)) w old.items new.items is);
        knows = λ all. all;
        held = λ skip all.
            let P : Waiter → Type 0 = λ v. skip v ≡ false → IsHeldBy commands v in
            All-permutation P (w ∷ old.items) new.items is (All-cons P w old.items (λ _. under) all);
        after = λ ended done.
            let out : bit (waited_for ended w) ≡ 0 = rw (not-waited commands w.command ended w.from under (done w.command)) in
            omega (arith, out, sum_by_pushed (λ v. bit (waited_for ended v)) w old.items new.items is);
        timed_room = refl;
        blocked_room = room;
      }

  -- by its time
  pub queued-timed : is_blocked commands w.command ≡ false → Knows life latest commands w → Queued life latest commands w.command old other new other
  queued-timed free own = record {
    timed = λ test. rw free (sum_by_pushed (λ v. bit (test v.command)) w old.items new.items is);
    blocked = λ test. let out : bit (is_blocked commands w.command && test w.command) ≡ 0 = rw free in omega (arith, out);
    knows = λ all.
        let P : Waiter → Type 0 = Knows life latest commands in
        All-permutation P (w ∷ old.items) new.items is (All-cons P w old.items own all);
    held = λ skip all. all;
    after = λ ended done. refl;
    timed_room = room;
    blocked_room = refl;
  }
