use Rattle.std.proofs.Common.{ap}
use Rattle.aoe_shelf.specs.Shelf.{ShelfTable}
use Rattle.aoe_shelf.proofs.SlotLemmas.{changed}
use Rattle.aoe_shelf.proofs.shelf.Shelf.arm_store.Goals as goal

pub returns-clause-arms : goal.returns-clause-arms
returns-clause-arms g c =
    changed c.args.slot _ c.self.inside.targets.items _ _ _
    (ap (λ (shelf : ShelfTable _ _). shelf.targets) c.self.view_is) c.requires.slot c.index_mut.ensures.value
    (record { arms = c.arm_store.ensures.arms; rest = c.arm_store.ensures.rest })

pub returns-clause-under : goal.returns-clause-under
returns-clause-under g c =
    changed c.args.slot _ c.self.inside.targets.items _ _ _
    (ap (λ (shelf : ShelfTable _ _). shelf.targets) c.self.view_is) c.requires.slot c.index_mut.ensures.value c.arm_store.ensures.under
