use Rattle.std.proofs.Common.{arith}
use Rattle.aoe_world.proofs.BuildShelf.{shelf-begun, shelf-built, shelf-more, shelf-words, slot-can, slot-given}
use Rattle.aoe_world.proofs.build.build_shelf.Goals as goal

pub overflow_cast-line : goal.overflow_cast-line
overflow_cast-line c = let words = shelf-words c.setups-count.ensures.script c.requires.0 c.requires.1 in omega (arith, words.0)

pub overflow_cast-line-2 : goal.overflow_cast-line-2
overflow_cast-line-2 c = let words = shelf-words c.setups-count.ensures.script c.requires.0 c.requires.1 in omega (arith, words.3)

pub new-requires : goal.new-requires
new-requires c =
    let words = shelf-words c.setups-count.ensures.script c.requires.0 c.requires.1 in
    record { shelf = omega (arith, words.0); ports = rw c.copy_of-ports.ensures words.1; shortest = words.2; longest = words.3 }

pub lines-init : goal.lines-init
lines-init c = shelf-begun (rw c.copy_of-ports.ensures at c.in_ok-shelf.ensures.value) c.in_ok-shelf.ensures.serves

pub add_slot-requires : goal.add_slot-requires
add_slot-requires c = record {
  can = slot-can c.setups-count.ensures.script c.requires.0 c.requires.1 c.setup.ensures.setup c.lines.invariant c.slot_in.result c.slot_in.ensures.line
      (c.slot_in.ensures.slot c.args.line.major c.args.line.ports.items c.args.line.mtu);
}

pub lines-preserved : goal.lines-preserved
lines-preserved c =
    shelf-more c.setup.ensures.setup c.lines.invariant c.add_slot.new.shelf (slot-given c.lines.shelf c.slot_in.result)
    (c.slot_in.ensures.slot c.lines.shelf.shelf.major c.lines.shelf.shelf.ports c.lines.shelf.shelf.mtu)
    c.in_ok-add_slot.ensures.serves c.in_ok-add_slot.ensures.stations c.in_ok-add_slot.ensures.rest

pub returns-clause-serves : goal.returns-clause-serves
returns-clause-serves c =
    shelf-built c.setups-count.ensures.script c.requires.0 c.requires.1
    (omega (arith, c.lines.auto.i-end, c.lines-test.false, c.setups-count.ensures.count)) c.lines.invariant
