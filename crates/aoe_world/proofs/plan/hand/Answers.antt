use Rattle.aoe_sim_setup.specs.Layout.{majors_of, setup_of, stations_of}
use Rattle.aoe_world.proofs.PlanLemmas.{gives-hand}
use Rattle.aoe_world.proofs.plan.hand.Goals as goal

pub returns-in-Some : goal.returns-in-Some
returns-in-Some c lines sim knows is =
    gives-hand knows c.in-Some.to _ is (rw is.found at (c.in-Some.ensures (setup_of lines) (majors_of lines) (stations_of lines) knows.places_are))

pub returns-in-None : goal.returns-in-None
returns-in-None c lines sim knows is = rw is.found at (c.in-None.ensures (setup_of lines) (majors_of lines) (stations_of lines) knows.places_are)
