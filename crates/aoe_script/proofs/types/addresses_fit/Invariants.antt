use Rattle.std.proofs.Common.{take}
use Rattle.std.specs.List.{All}
use Rattle.aoe_script.specs.Types.{IsAddress}
use Rattle.aoe_script.proofs.types.addresses_fit.Given as goal

abbrev pub invariant-macs : goal.invariant-macs
invariant-macs l = All IsAddress (take l.mac-index l.macs)
