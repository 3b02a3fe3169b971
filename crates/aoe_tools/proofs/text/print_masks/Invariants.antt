use Rattle.std.proofs.Common.{◌≡◌, take}
use Rattle.std.specs.List.{flat_map}
use Rattle.aoe_tools.specs.Text.{dir_line}
use Rattle.aoe_tools.proofs.text.print_masks.Given as goal

abbrev pub invariant-dirs : goal.invariant-dirs
invariant-dirs l = l.out.items ≡ flat_map dir_line (take l.dir-index l.dirs)
