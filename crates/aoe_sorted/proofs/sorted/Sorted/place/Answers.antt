use Rattle.std.proofs.Common.{rules}
use Rattle.std.proofs.lemmas.List.Sorted.{IsPartitionPoint-from_clause}
use Rattle.aoe_sorted.specs.Order.{before}
use Rattle.aoe_sorted.proofs.RankLemmas.{partitioned}
use Rattle.aoe_sorted.proofs.sorted.Sorted.place.Goals as goal

pub returns-clause-low : goal.returns-clause-low
returns-clause-low g c =
    let rank = g.T.Ranked.rank in
    let xs = c.self.inside.items.items in
    let point = IsPartitionPoint-from_clause (λ x. before (rank x) c.args.rank.now) xs c.partition_point.result c.partition_point.ensures.partitioned
    (partitioned rank c.args.rank.now xs c.self.invariant.order) (λ a r f h. search rules) in
    rw (← c.self.view_is) point.0

pub returns-clause-high : goal.returns-clause-high
returns-clause-high g c =
    let rank = g.T.Ranked.rank in
    let xs = c.self.inside.items.items in
    let point = IsPartitionPoint-from_clause (λ x. before (rank x) c.args.rank.now) xs c.partition_point.result c.partition_point.ensures.partitioned
    (partitioned rank c.args.rank.now xs c.self.invariant.order) (λ a r f h. search rules) in
    rw (← c.self.view_is) point.1
