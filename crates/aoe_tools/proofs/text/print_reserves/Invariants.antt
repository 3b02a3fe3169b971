use Rattle.std.proofs.Common.{◌≡◌, take}
use Rattle.std.specs.List.{flat_map}
use Rattle.aoe_tools.specs.Text.{mac_line}
use Rattle.aoe_tools.proofs.text.print_reserves.Given as goal

abbrev pub invariant-macs : goal.invariant-macs
invariant-macs l = l.out.items ≡ flat_map mac_line (take l.mac-index l.macs)
