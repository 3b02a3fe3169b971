use Rattle.aoe_sim_setup.specs.Layout.{majors_of, setup_of, stations_of}
use Rattle.aoe_world.proofs.PlanLemmas.{gives-submit}
use Rattle.aoe_world.proofs.plan.submit.Goals as goal

pub returns-in-Some-Host : goal.returns-in-Some-Host
returns-in-Some-Host c lines sim knows is can =
    gives-submit knows c.in-Some-Host.host c.args.op is can
    (rw (c.in-Some-Host.field-0-is, is.station) at (c.in-Some-Host.ensures (setup_of lines) (majors_of lines) (stations_of lines) knows.places_are))

pub returns-in-Some-Shelf : goal.returns-in-Some-Shelf
returns-in-Some-Shelf c lines sim knows is can =
    rw (c.in-Some-Shelf.field-0-is, is.station) at (c.in-Some-Shelf.ensures (setup_of lines) (majors_of lines) (stations_of lines) knows.places_are)

pub returns-in-None : goal.returns-in-None
returns-in-None c lines sim knows is can = rw is.station at (c.in-None.ensures (setup_of lines) (majors_of lines) (stations_of lines) knows.places_are)
