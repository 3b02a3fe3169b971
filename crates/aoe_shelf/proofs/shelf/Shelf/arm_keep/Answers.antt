use Rattle.std.proofs.Common.{ap}
use Rattle.aoe_shelf.specs.Shelf.{ShelfTable}
use Rattle.aoe_shelf.proofs.SlotLemmas.{changed}
use Rattle.aoe_shelf.proofs.shelf.Shelf.arm_keep.Goals as goal

pub returns-clause-arms : goal.returns-clause-arms
returns-clause-arms g c =
    changed c.args.slot _ c.self.inside.targets.items _ _ _
    (ap (λ (shelf : ShelfTable _ _). shelf.targets) c.self.view_is) c.requires.slot c.index_mut.ensures.value
    (record { arms = c.arm_keep.ensures.arms; lists = c.arm_keep.ensures.lists; rest = c.arm_keep.ensures.rest })
