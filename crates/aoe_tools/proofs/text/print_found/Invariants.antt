use Rattle.std.proofs.Common.{◌≡◌, take}
use Rattle.aoe_tools.specs.Text.{found_text}
use Rattle.aoe_tools.proofs.text.print_found.Given as goal

abbrev pub invariant-devices : goal.invariant-devices
invariant-devices l = l.out.items ≡ found_text l.long (take l.i l.found)
