use Rattle.aoe_world.proofs.WorldLemmas.{new-world}
use Rattle.aoe_world.proofs.world.World.new.Goals as goal

pub invariant_of-result : goal.invariant_of-result
invariant_of-result c = new-world c.in_ok-sim.ensures.staged c.in_ok-sim.ensures.ready c.in_ok-sim.ensures.entries
