use Rattle.aoe_world.proofs.BuildShelf.{ShelfSoFar}
use Rattle.aoe_world.proofs.build.build_shelf.Given as goal

-- the shelf has the slots of the lines before
abbrev pub invariant-lines : goal.invariant-lines
invariant-lines l = ShelfSoFar l.script.setups l.name l.fn.line.major l.fn.line.ports l.fn.line.mtu l.i l.shelf
