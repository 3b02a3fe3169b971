use Rattle.aoe_shelf_tests.proofs.Marks.{new_silent}
use Rattle.aoe_shelf_tests.proofs.mirror.refused.Goals as goal

pub mount-requires-clause-truly : goal.mount-requires-clause-truly
mount-requires-clause-truly c = new_silent c.in_ok-mark.mark c.min-3.result c.in_ok-mark.ensures
