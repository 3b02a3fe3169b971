use Rattle.aoe_world.proofs.TurnLemmas.{Going}
use Rattle.aoe_world.proofs.sim.Sim.settle.Given as goal

abbrev pub invariant-hosts : goal.invariant-hosts
invariant-hosts l = Going l.fn.self l.self l.i l.i-end
