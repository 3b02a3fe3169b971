use Rattle.std.proofs.Common.{arith}
use Rattle.aoe_lists.proofs.ChangeLemmas.{success_of-same, same_settings-config}
use Rattle.aoe_lists.proofs.config.set.Goals as goal

pub returns-then-eq : goal.returns-then-eq
returns-then-eq c = grind (arith, success_of-same, same_settings-config)
