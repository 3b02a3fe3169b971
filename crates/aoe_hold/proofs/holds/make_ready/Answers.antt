use Rattle.std.proofs.Common.{arith, ap, length, List}
use Rattle.std.specs.Prelude.{◌∷◌}
use Rattle.std.proofs.lemmas.List.Sorted.{length_permutation}
use Rattle.aoe_hold.specs.declared.queue.Waiter.{Waiter}
use Rattle.aoe_hold.proofs.MoveLemmas.{moved-more}
use Rattle.aoe_hold.proofs.holds.make_ready.Goals as goal

pub past-preserved : goal.past-preserved
past-preserved g c =
    let popped = c.in-Some.ensures.some in
    let moved : Waiter = record c.in-Some.waiter { from = 0 } in
    let longer = length_permutation (moved ∷ c.past.ready.items) c.insert.new.self.items c.insert.ensures.waiters in
    let shorter = ap (λ (l : List Waiter). length l) popped.1 in (
      moved-more c.pop_past.new.self c.insert.new.self c.in-Some.waiter c.past.invariant.0 popped.1 popped.0 c.insert.ensures.waiters
          c.in-Some.ensures.room c.insert.ensures.room,
      omega (arith, longer, shorter, c.past.invariant.1),
      omega (arith, longer, c.past.invariant.2, c.in-Some.ensures.step),
    )
