use Rattle.std.proofs.Common.{arith}
use Rattle.std.proofs.lemmas.Grind.{common_steps}
use Rattle.aoe_lists.proofs.EditLemmas.{all_unique-after_directive}
use Rattle.aoe_lists.proofs.masks.edit.Goals as goal

pub loop-bytes-preserved : goal.loop-bytes-preserved
loop-bytes-preserved c = grind (arith, common_steps, all_unique-after_directive)
