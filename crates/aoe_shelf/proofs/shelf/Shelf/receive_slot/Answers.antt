use Rattle.std.proofs.Common.{ap}
use Rattle.aoe_shelf.specs.Shelf.{ShelfTable}
use Rattle.aoe_shelf.proofs.SlotLemmas.{changed}
use Rattle.aoe_shelf.proofs.shelf.Shelf.receive_slot.Goals as goal

pub returns-clause-receives : goal.returns-clause-receives
returns-clause-receives g c =
    changed c.args.slot _ c.self.inside.targets.items _ _ _ (ap (λ (shelf : ShelfTable _ _). shelf.targets) c.self.view_is) c.requires c.index_mut.ensures.value
    (record {
      station = c.receive.ensures.station;
      step = c.receive.ensures.step;
      silent = c.receive.ensures.silent;
      ignored = c.receive.ensures.ignored;
      call = c.receive.ensures.call;
      log = c.receive.ensures.log;
      idle = c.receive.ensures.idle;
      fault = c.receive.ensures.fault;
      edit = c.receive.ensures.edit;
      unedited = c.receive.ensures.unedited;
      edit_fault = c.receive.ensures.edit_fault;
    })

pub returns-clause-under : goal.returns-clause-under
returns-clause-under g c =
    changed c.args.slot _ c.self.inside.targets.items _ _ _
    (ap (λ (shelf : ShelfTable _ _). shelf.targets) c.self.view_is) c.requires c.index_mut.ensures.value c.receive.ensures.under

pub returns-clause-firm : goal.returns-clause-firm
returns-clause-firm g c =
    changed c.args.slot _ c.self.inside.targets.items _ _ _
    (ap (λ (shelf : ShelfTable _ _). shelf.targets) c.self.view_is) c.requires c.index_mut.ensures.value c.receive.ensures.firm
