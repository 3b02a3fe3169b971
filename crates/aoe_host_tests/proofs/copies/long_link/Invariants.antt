use Rattle.std.proofs.Common.{All}
use Rattle.aoe_io.specs.LinkMemory.{IsShort}
use Rattle.aoe_host_tests.proofs.copies.long_link.Given as goal

abbrev pub invariant-commands : goal.invariant-commands
invariant-commands l = All IsShort l.coming.items
