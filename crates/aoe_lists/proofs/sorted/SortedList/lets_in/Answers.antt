use Rattle.std.proofs.Common.{◌∙◌, ◌||◌, ap, subst, sym}
use Rattle.std.specs.Prelude.{IsSorted}
use Rattle.aoe_base.specs.Addresses.{holds}
use Rattle.aoe_base.specs.contracts.address.MacOrd.TheImpl as mac
use Rattle.aoe_base.specs.contracts.address.MacOrd.TheImpl.Laws.{matches_eq-law, total-law}
use Rattle.aoe_lists.proofs.SortedLemmas.{searched}
use Rattle.aoe_lists.proofs.sorted.SortedList.lets_in.Goals as goal

pub returns-else-is_empty : goal.returns-else-is_empty
returns-else-is_empty c =
    let addresses = c.self.inside.addresses.items in
    let told = searched mac.ghosts.cmp total-law matches_eq-law c.as_slice.result.now c.args.address _ c.binary_search.ensures.bound
    c.binary_search.ensures.position
    (subst (IsSorted mac.ghosts.cmp) (sym c.as_slice.ensures.value) c.self.invariant) in
    rw (← c.self.view_is) (c.is_ok.ensures.value ∙ told ∙ ap (λ list. holds list c.args.address) c.as_slice.ensures.value
    ∙ ap (λ none. none || holds addresses c.args.address) c.if-is_empty.ensures)
