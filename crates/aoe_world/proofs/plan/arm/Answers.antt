use Rattle.aoe_world.proofs.PlanLemmas.{gives-arm, none-armed}
use Rattle.aoe_world.proofs.plan.arm.Goals as goal

pub returns-in-Some : goal.returns-in-Some
returns-in-Some c lines places knows is first last =
    gives-arm knows c.args.dev c.in-Some.shelf c.in-Some.slot c.args.which c.args.k c.args.mode first last c.in-Some.ensures.shelf c.in-Some.ensures.slot

pub returns-in-None : goal.returns-in-None
returns-in-None c lines places knows is first last = none-armed knows c.args.dev is c.in-None.ensures.none
