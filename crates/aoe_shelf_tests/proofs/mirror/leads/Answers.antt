use Rattle.std.proofs.Common.{arith}
use Rattle.aoe_shelf_tests.proofs.Marks.{image_silent}
use Rattle.aoe_shelf_tests.proofs.mirror.leads.Goals as goal

pub mount-requires-clause-truly : goal.mount-requires-clause-truly
mount-requires-clause-truly c = image_silent c.in_ok-of.field-0 _ (omega arith) c.in_ok-of.ensures
