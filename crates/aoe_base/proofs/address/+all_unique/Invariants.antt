use Rattle.std.proofs.Common.{length}
use Rattle.aoe_base.proofs.address.+all_unique.Given as goal

abbrev pub decreases-all_unique : goal.decreases-all_unique
decreases-all_unique l = length l.list.now
