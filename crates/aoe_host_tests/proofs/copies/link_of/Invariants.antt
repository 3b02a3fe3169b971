use Rattle.std.proofs.Common.{All}
use Rattle.aoe_io.specs.LinkMemory.{IsShort}
use Rattle.aoe_host_tests.proofs.copies.link_of.Given as goal

abbrev pub invariant-turns : goal.invariant-turns
invariant-turns l = All IsShort l.coming.items
