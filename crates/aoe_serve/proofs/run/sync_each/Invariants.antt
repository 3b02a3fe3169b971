use Rattle.std.proofs.Common.{◌≡◌, List, length}
use Rattle.std.specs.Prelude.{Result}
use Rattle.aoe_base.specs.declared.failure.Failed.{Failed}
use Rattle.aoe_serve.specs.Slots.{slots_of}
use Rattle.aoe_serve.specs.Exporting.{first_failed}
use Rattle.aoe_serve.proofs.SyncLemmas.{Partly}
use Rattle.aoe_serve.proofs.run.sync_each.Given as goal

abbrev pub invariant-slots : goal.invariant-slots
invariant-slots g l = ((results : List (Result (Unit {0}) Failed)) × (length results ≡ l.slot)
    × Partly (slots_of g.S.Store.lasts g.S.Store.state g.D.Disk.state l.initial.shelf.targets)
    (slots_of g.S.Store.lasts g.S.Store.state g.D.Disk.state l.shelf.targets) results
    × (l.first ≡ first_failed results))
    × (l.shelf ≡ record l.initial.shelf { targets = l.shelf.targets })
    × (length l.shelf.targets ≡ length l.initial.shelf.targets)
