use Rattle.std.proofs.Common.{arith}
use Rattle.aoe_lists.proofs.ChangeLemmas.{success_of-same, success_of-other, same_settings-masks}
use Rattle.aoe_lists.proofs.masks.set.Goals as goal

pub returns-then-eq : goal.returns-then-eq
returns-then-eq c = grind (arith, success_of-same, same_settings-masks)

pub returns : goal.returns
returns c = grind (arith, success_of-other, same_settings-masks)
