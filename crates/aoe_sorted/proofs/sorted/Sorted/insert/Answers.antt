use Rattle.std.proofs.Common.{arith}
use Rattle.std.proofs.lemmas.List.Sorted.{IsPermutation-insert}
use Rattle.aoe_sorted.proofs.RankLemmas.{inserted-at, ordered-insert}
use Rattle.aoe_sorted.proofs.sorted.Sorted.insert.Goals as goal

pub invariant_of-self : goal.invariant_of-self
invariant_of-self g c =
    let fewer = rw (← c.self.view_is) at c.requires in
    let place = c.place-place.ensures in
    let items = inserted-at c.insert.result _ _ c.insert.ensures.items c.insert.ensures.full (λ full. omega (arith, fewer, c.self.invariant.reserved, full)) in
    record {
      order = rw items (ordered-insert g.T.Ranked.rank c.args.x c.self.inside.items.items c.place-place.result c.self.invariant.order
          (rw (← c.self.view_is) at place.bound) (rw (← c.self.view_is, c.rank.ensures) at place.low) (rw (← c.self.view_is, c.rank.ensures) at place.high));
      reserved = omega (arith, c.self.invariant.reserved, c.insert.ensures.capacity);
    }

pub returns-clause-items : goal.returns-clause-items
returns-clause-items g c =
    let fewer = rw (← c.self.view_is) at c.requires in
    let items = inserted-at c.insert.result _ _ c.insert.ensures.items c.insert.ensures.full (λ full. omega (arith, fewer, c.self.invariant.reserved, full)) in
    rw (← c.self.view_is) (rw items (IsPermutation-insert c.self.inside.items.items c.place-place.result c.args.x))
