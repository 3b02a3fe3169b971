use Rattle.std.proofs.Common.{◌≡◌, ◌+◌, ◌-◌, ◌^◌, min, take}
use Rattle.std.specs.Prelude.{sum_by}
use Rattle.aoe_script.specs.Rules.{sectors_of}
use Rattle.aoe_script.proofs.standing.are_too_many.Given as goal

abbrev pub invariant-sectors : goal.invariant-sectors
invariant-sectors l = l.total ≡ min (sum_by sectors_of (take l.setup-index l.setups) + l.fn.sectors) (2 ^ 64 - 1)
