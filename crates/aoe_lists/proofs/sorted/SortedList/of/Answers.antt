use Rattle.std.proofs.Common.{IsPermutation, subst, ◌∙◌}
use Rattle.aoe_lists.proofs.SortedLemmas.{open_alike}
use Rattle.aoe_lists.proofs.sorted.SortedList.of.Goals as goal

pub returns-clause-lets_in : goal.returns-clause-lets_in
returns-clause-lets_in c =
    open_alike c.args.list.now.items c.sort.new.list.items
    (subst (λ list. IsPermutation list c.sort.new.list.items) (c.refill.ensures ∙ c.as_slice.ensures.value) c.sort.ensures.addresses)
