use Rattle.std.proofs.Common.{add-one, arith}
use Rattle.aoe_world.proofs.ListLemmas.{read-at}
use Rattle.aoe_world.proofs.PlaceLemmas.{station-only}
use Rattle.aoe_world.proofs.ScheduleLemmas.{at-inside, in-hand-all, in-hand-begun, in-hand-lost, in-hand-next, in-hand-none, in-hand-same, in-hand-test, stands-at}
use Rattle.aoe_world.proofs.sim.Sim.hand_over.Goals as goal
use Rattle.aoe_world.proofs.sim.Sim.hand_over.Goals.{then-is_for+in-Ok, else-is_for}

pub places-init : goal.places-init
places-init c s majors stations net ready are = in-hand-none stations c.args.number.0 ready

pub act-requires : goal.act-requires
act-requires c =
    let r = c.requires in
    let there = read-at c.args.places.now c.places.place-index c.places-test.true c.place-item.is in
    let x = stands-at c.places.place-index c.place-item.result r.places_are there in
    at-inside (c.places.invariant r.setup r.majors r.stations r.network_is r.ready r.places_are).ready c.place-item.result.at x.placed.station x.at_is

pub returns-in-Err : goal.returns-in-Err
returns-in-Err c s majors stations net ready are =
    let h = c.places.invariant s majors stations net ready are in
    let there = read-at c.args.places.now c.places.place-index c.places-test.true c.place-item.is in
    let x = stands-at c.places.place-index c.place-item.result are there in
    in-hand-begun h x.placed x.there_is (in-hand-test h x.ports c.is_for.ensures c.if-is_for.true)
    (rw (station-only s majors c.place-item.result.at x.placed.station x.at_is) at (c.in-Err.ensures s majors net h.ready tt))

pub places-preserved : goal.places-preserved
places-preserved c s majors stations net ready are =
    let h = c.places.invariant s majors stations net ready are in
    let there = read-at c.args.places.now c.places.place-index c.places-test.true c.place-item.is in
    let x = stands-at c.places.place-index c.place-item.result are there in
    elim c.if-is_for.branch [
      | then-is_for+in-Ok w ↦
          let done = rw (station-only s majors c.place-item.result.at x.placed.station x.at_is) at (w.in-Ok.ensures s majors net h.ready tt) in
          rw (add-one c.places.place-index, w.any-is, w.self-is)
          (in-hand-next h x.placed x.there_is (in-hand-test h x.ports c.is_for.ensures w.if-is_for.true) done.0 done.1)
      | else-is_for w ↦
          rw (add-one c.places.place-index, w.any-is, w.self-is)
          (in-hand-same h x.placed x.there_is (in-hand-test h x.ports c.is_for.ensures w.if-is_for.false))
    ]

pub returns-then-any : goal.returns-then-any
returns-then-any c s majors stations net ready are =
    let h = rw c.if-any.true at (c.places.invariant s majors stations net ready are) in
    (in-hand-all h (omega (arith, are.count)), h.ready)

pub returns : goal.returns
returns c s majors stations net ready are =
    let h = rw c.if-any.false at (c.places.invariant s majors stations net ready are) in
    in-hand-lost c.act-2.result c.act-2.new.self h (omega (arith, are.count)) (c.act-2.ensures s majors net h.ready tt)
