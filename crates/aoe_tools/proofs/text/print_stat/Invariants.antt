use Rattle.std.proofs.Common.{◌≡◌, take}
use Rattle.aoe_tools.specs.Text.{stat_text}
use Rattle.aoe_tools.proofs.text.print_stat.Given as goal

abbrev pub invariant-devices : goal.invariant-devices
invariant-devices l = l.out.items ≡ stat_text l.sectors (take l.i l.found)
