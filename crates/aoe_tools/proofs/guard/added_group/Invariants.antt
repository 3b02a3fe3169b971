use Rattle.std.proofs.Common.{◌≡◌, drop}
use Rattle.aoe_tools.specs.Guard.{added_group}
use Rattle.aoe_tools.proofs.guard.added_group.Given as goal

abbrev pub invariant-dirs : goal.invariant-dirs
invariant-dirs l = added_group (drop l.dir-index l.fn.dirs) ≡ added_group l.fn.dirs
