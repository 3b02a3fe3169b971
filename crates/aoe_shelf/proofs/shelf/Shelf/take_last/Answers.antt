use Rattle.std.proofs.Common.{refl, sym, ap, ◌∙◌}
use Rattle.aoe_shelf.specs.Shelf.{ShelfTable}
use Rattle.aoe_shelf.proofs.shelf.Shelf.take_last.Goals as goal

pub returns-clause-takes : goal.returns-clause-takes
returns-clause-takes g c = (
  c.in_ok-target.target,
  sym (ap (λ (shelf : ShelfTable _ _). shelf.targets) c.self.view_is)
      ∙ c.in_ok-target.ensures.items,
  rw (← c.close.ensures.store, ← c.close.ensures.keep) refl,
)
