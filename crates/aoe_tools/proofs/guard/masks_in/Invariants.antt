use Rattle.std.proofs.Common.{◌≡◌, map, take}
use Rattle.aoe_tools.specs.Guard.{mac_in}
use Rattle.aoe_tools.proofs.guard.masks_in.Given as goal

abbrev pub invariant-dirs : goal.invariant-dirs
invariant-dirs l = l.list.items ≡ map mac_in (take l.dir-index l.dirs)
