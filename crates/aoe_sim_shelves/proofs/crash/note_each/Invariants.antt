use Rattle.std.proofs.Common.{◌≡◌, take}
use Rattle.aoe_sim_shelves.specs.Crash.{with_crashes}
use Rattle.aoe_sim_shelves.proofs.crash.note_each.Given as goal

abbrev pub invariant-slots : goal.invariant-slots
invariant-slots l = l.run ≡ record l.initial.run { entries = with_crashes l.how (take l.slot l.shelf.targets) l.initial.run.entries }
