use Rattle.std.proofs.Common.{length}
use Rattle.aoe_sim_shelves.proofs.crash.+restart.Given as goal

abbrev pub decreases-restart : goal.decreases-restart
decreases-restart l = length l.shelf.now.targets
