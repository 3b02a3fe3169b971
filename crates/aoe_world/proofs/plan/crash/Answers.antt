use Rattle.aoe_sim_setup.specs.Layout.{majors_of, setup_of, stations_of}
use Rattle.aoe_world.proofs.PlanLemmas.{gives-crash}
use Rattle.aoe_world.proofs.plan.crash.Goals as goal

pub returns-in-Some-Shelf : goal.returns-in-Some-Shelf
returns-in-Some-Shelf c lines sim knows is =
    gives-crash knows c.in-Some-Shelf.shelf c.args.how is
    (rw (c.in-Some-Shelf.field-0-is, is.found) at (c.in-Some-Shelf.ensures (setup_of lines) (majors_of lines) (stations_of lines) knows.places_are))

pub returns-in-Some-Host : goal.returns-in-Some-Host
returns-in-Some-Host c lines sim knows is =
    rw (c.in-Some-Host.field-0-is, is.found) at (c.in-Some-Host.ensures (setup_of lines) (majors_of lines) (stations_of lines) knows.places_are)

pub returns-in-None : goal.returns-in-None
returns-in-None c lines sim knows is = rw is.found at (c.in-None.ensures (setup_of lines) (majors_of lines) (stations_of lines) knows.places_are)
