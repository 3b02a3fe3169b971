use Rattle.aoe_sim_setup.specs.Layout.{majors_of, setup_of, stations_of}
use Rattle.aoe_world.proofs.ActLemmas.{no-memory}
use Rattle.aoe_world.proofs.PlanLemmas.{again-runs, one-runs, pass-runs, skip-runs}
use Rattle.aoe_world.specs.Plan.{IsOne}
use Rattle.aoe_world.proofs.world.run.Goals as goal

pub returns-in-Ok-Some-One : goal.returns-in-Ok-Some-One
returns-in-Ok-Some-One c lines knows can within =
    let one : IsOne lines c.args.sim.now c.args.event.now c.in-Ok-Some-One.act =
    rw (c.in-Ok-Some-One.field-0-is, c.in-Ok-Some-One.field-0-0-is) at (c.in-Ok-Some-One.ensures.planned lines knows can) in
    one-runs lines c.args.cursor.now c.args.sim.now c.act.new.self c.act.result c.args.event.now c.in-Ok-Some-One.act one c.requires.from_one within
    (c.act.ensures (setup_of lines) (majors_of lines) knows.network_is knows.ready one.foreign)

pub returns-in-Ok-Some-Pass : goal.returns-in-Ok-Some-Pass
returns-in-Ok-Some-Pass c lines knows can within =
    rw (rw (c.in-Ok-Some-Pass.field-0-is, c.in-Ok-Some-Pass.field-0-0-is) at (c.in-Ok-Some-Pass.ensures.planned lines knows can))
    (pass-runs lines c.args.cursor.now c.args.sim.now c.pass.new.self c.pass.result c.in-Ok-Some-Pass.n c.pass.new.cursor
    (c.pass.ensures (setup_of lines) (majors_of lines) (stations_of lines) knows.network_is knows.ready knows.places_are c.requires.from_one within))

pub returns-in-Ok-Some-Skip : goal.returns-in-Ok-Some-Skip
returns-in-Ok-Some-Skip c lines knows can within =
    rw (rw (c.in-Ok-Some-Skip.field-0-is, c.in-Ok-Some-Skip.field-0-0-is) at (c.in-Ok-Some-Skip.ensures.planned lines knows can))
    (skip-runs lines c.args.cursor.now c.args.sim.now c.skip.new.self c.skip.result c.in-Ok-Some-Skip.n c.skip.new.cursor
    (c.skip.ensures (setup_of lines) (majors_of lines) knows.network_is knows.ready c.requires.from_one within))

pub returns-in-Ok-Some-Again : goal.returns-in-Ok-Some-Again
returns-in-Ok-Some-Again c lines knows can within =
    rw (rw (c.in-Ok-Some-Again.field-0-is, c.in-Ok-Some-Again.field-0-0-is) at (c.in-Ok-Some-Again.ensures.planned lines knows can))
    (again-runs lines c.args.cursor.now c.args.sim.now c.hand_over.new.self c.hand_over.result c.requires.from_one within
    (c.hand_over.ensures (setup_of lines) (majors_of lines) (stations_of lines) knows.network_is knows.ready knows.places_are))

pub returns-in-Err : goal.returns-in-Err
returns-in-Err c lines knows can within = no-memory (c.in-Err.ensures.memory lines c.args.cursor.now c.args.sim.now.run.entries) knows.ready.lawful
