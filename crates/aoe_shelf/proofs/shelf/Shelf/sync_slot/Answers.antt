use Rattle.std.proofs.Common.{ap}
use Rattle.aoe_shelf.specs.Shelf.{ShelfTable}
use Rattle.aoe_shelf.proofs.SlotLemmas.{changed}
use Rattle.aoe_shelf.proofs.shelf.Shelf.sync_slot.Goals as goal

pub returns-clause-syncs : goal.returns-clause-syncs
returns-clause-syncs g c =
    changed c.args.slot _ c.self.inside.targets.items _ _ _ (ap (λ (shelf : ShelfTable _ _). shelf.targets) c.self.view_is) c.requires c.index_mut.ensures.value
    (record { syncs = c.sync.ensures.syncs; rest = c.sync.ensures.rest })
