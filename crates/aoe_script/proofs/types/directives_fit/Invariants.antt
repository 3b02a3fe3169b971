use Rattle.std.proofs.Common.{take}
use Rattle.std.specs.List.{All}
use Rattle.aoe_script.specs.Types.{IsAddress}
use Rattle.aoe_script.proofs.types.directives_fit.Given as goal

abbrev pub invariant-dirs : goal.invariant-dirs
invariant-dirs l = All (λ dir. IsAddress dir.mac) (take l.dir-index l.dirs)
