use Rattle.std.proofs.Common.{◌≡◌, arith, not, nat_eq, rules}
use Rattle.std.specs.List.{filter}
use Rattle.std.proofs.lemmas.Fn.{filter_same}
use Rattle.aoe_sorted.proofs.RankLemmas.{ordered-filter}
use Rattle.aoe_sorted.proofs.sorted.Sorted.drop_tie.Goals as goal

pub invariant_of-self : goal.invariant_of-self
invariant_of-self g c =
    let xs = c.self.inside.items.items in
    let items : c.retain.new.self.items ≡ filter (λ x. not (nat_eq (g.T.Ranked.rank x).tie c.args.tie)) xs =
    filter_same _ _ _ (λ x b f' called. search rules) _ _ c.retain.ensures.filtered in
    record {
      order = rw items (ordered-filter g.T.Ranked.rank (λ x. not (nat_eq (g.T.Ranked.rank x).tie c.args.tie)) xs c.self.invariant.order);
      reserved = omega (arith, c.self.invariant.reserved, c.retain.ensures.capacity);
    }

pub returns-clause-items : goal.returns-clause-items
returns-clause-items g c =
    let xs = c.self.inside.items.items in
    let items : c.retain.new.self.items ≡ filter (λ x. not (nat_eq (g.T.Ranked.rank x).tie c.args.tie)) xs =
    filter_same _ _ _ (λ x b f' called. search rules) _ _ c.retain.ensures.filtered in
    rw (← c.self.view_is) items
