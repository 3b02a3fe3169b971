use Rattle.std.proofs.Common.{◌≡◌, false, rules}
use Rattle.aoe_flight.proofs.EntryLemmas.{found-there}
use Rattle.aoe_flight.specs.Order.{rank_of}
use Rattle.aoe_sorted.specs.Order.{before}
use Rattle.aoe_flight.proofs.order.remove.Goals as goal

pub returns-then-not-is_before-clause-none : goal.returns-then-not-is_before-clause-none
returns-then-not-is_before-clause-none c = λ out.
    let behind : before (rank_of c.args.entry) (rank_of c.in-Some.first) ≡ false = search rules in
    absurd (out (found-there c.args.order.now.items c.in-Some.place c.in-Some.first c.args.entry c.in-Some.ensures.there
    (rw c.rank-rank.ensures at c.in-Some.ensures.from) behind))
