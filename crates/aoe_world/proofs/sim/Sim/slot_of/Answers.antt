use Rattle.std.proofs.Common.{sym}
use Rattle.aoe_world.proofs.ListLemmas.{read-at}
use Rattle.aoe_world.proofs.sim.Sim.slot_of.Goals as goal
use Rattle.aoe_initiator.proofs.ListLemmas.{placed-inside}

pub returns-in_default-slot_with-clause-none : goal.returns-in_default-slot_with-clause-none
returns-in_default-slot_with-clause-none c =
    let xs = c.args.self.now.shelves.items in
    let there = read-at xs c.in-Some.shelf (placed-inside _ xs c.in-Some.shelf (sym c.in-Some.ensures)) c.index.ensures in
    rw (← c.in-Some.ensures, there) c.in_default-slot_with.ensures.none

pub returns-clause-slot : goal.returns-clause-slot
returns-clause-slot c =
    let xs = c.args.self.now.shelves.items in
    let there = read-at xs c.in-Some.shelf (placed-inside _ xs c.in-Some.shelf (sym c.in-Some.ensures)) c.index.ensures in
    rw there c.in-Some-slot_with.ensures.found
