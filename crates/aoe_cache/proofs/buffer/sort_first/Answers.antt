use Rattle.std.proofs.Common.{rules, List, take, drop, ◌∙◌}
use Rattle.std.proofs.lemmas.List.Sorted.{IsNonDecreasingBy-from_sort_by_key}
use Rattle.std.proofs.lemmas.List.{length-take-le, take_at}
use Rattle.aoe_cache.specs.declared.place.HeldSector.{HeldSector}
use Rattle.aoe_cache.proofs.Ordered.{sorted_ordered}
use Rattle.aoe_cache.proofs.buffer.sort_first.Goals as goal

pub returns-clause-first : goal.returns-clause-first
returns-clause-first c =
    let old : List HeldSector = take c.args.held c.args.places.now in
    let new : List HeldSector = c.sort_unstable_by_key.new.self in
    let rises = IsNonDecreasingBy-from_sort_by_key (λ (h : HeldSector). h.at) new c.sort_unstable_by_key.ensures.sorted (λ a r f h. search rules) in
    take_at new (drop c.args.held c.args.places.now) c.args.held
    (c.sort_unstable_by_key.ensures.len ∙ length-take-le c.args.held c.args.places.now c.requires.held)
    ∙ sorted_ordered old new c.sort_unstable_by_key.ensures.permutation rises c.requires.once c.requires.whole
