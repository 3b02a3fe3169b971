use Rattle.std.proofs.Common.{◌≡◌, get_or, arith, rules, sym, ◌∙◌, Some}
use Rattle.std.proofs.lemmas.List.Sorted.{IsPermutation-remove}
use Rattle.aoe_sorted.proofs.RankLemmas.{ordered-remove, removed-at}
use Rattle.aoe_sorted.proofs.sorted.Sorted.remove_at.Goals as goal

pub invariant_of-self : goal.invariant_of-self
invariant_of-self g c =
    let xs = c.self.inside.items.items in
    let within = rw (← c.self.view_is) at c.requires in
    let items = removed-at c.remove.result xs _ c.args.place (search rules) c.remove.ensures.items within in
    record {
      order = rw items (ordered-remove g.T.Ranked.rank xs c.args.place within c.self.invariant.order);
      reserved = omega (arith, c.self.invariant.reserved, c.remove.ensures.capacity);
    }

pub returns-clause-items : goal.returns-clause-items
returns-clause-items g c =
    let xs = c.self.inside.items.items in
    let taken = c.unwrap.result in
    let within = rw (← c.self.view_is) at c.requires in
    let items = removed-at c.remove.result xs _ c.args.place (search rules) c.remove.ensures.items within in
    let is : Some taken ≡ Some (get_or xs c.args.place taken) = sym c.unwrap.ensures ∙ c.remove.ensures.succeeds taken (search rules) in
    rw (← c.self.view_is) (rw items (IsPermutation-remove xs c.args.place taken within (cc)))
