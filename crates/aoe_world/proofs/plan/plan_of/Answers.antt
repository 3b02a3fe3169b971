use Rattle.std.proofs.Common.{refl, arith}
use Rattle.aoe_script.specs.declared.event.Event.TheVariants as event
use Rattle.aoe_sim_setup.specs.Layout.{setup_of}
use Rattle.aoe_world.specs.declared.act.Act.TheVariants as act
use Rattle.aoe_world.proofs.PlanLemmas.{asks-of, line-one, line-some, on-ok}
use Rattle.aoe_world.proofs.plan.plan_of.Goals as goal

pub returns-in-Tick-clause-planned : goal.returns-in-Tick-clause-planned
returns-in-Tick-clause-planned c lines knows can =
    let most = (rw c.in-Tick.is at can).1 in
    rw c.in-Tick.is (line-one lines c.args.sim.now (event.Tick c.in-Tick.ms) (λ cursor h. refl)
    (act.Tick c.in-Tick.ms) refl (omega (arith, most, knows.time)) tt)

pub returns-in-Inject-clause-planned : goal.returns-in-Inject-clause-planned
returns-in-Inject-clause-planned c =
    on-ok c.inject.result c.inject.ensures (λ o is lines knows can.
    let k = rw c.in-Inject.is at can in
    rw (is, c.in-Inject.is)
    (line-one lines c.args.sim.now (event.Inject c.in-Inject.bytes) (λ cursor h. refl) (act.Inject c.in-Inject.bytes) refl k.2 k.0))

pub returns-in-Deliver-clause-planned : goal.returns-in-Deliver-clause-planned
returns-in-Deliver-clause-planned c lines knows can =
    rw c.in-Deliver.is (line-some lines c.args.sim.now (event.Deliver c.in-Deliver.frame c.in-Deliver.station) (λ cursor h. refl) c.hand.result
    (c.hand.ensures lines c.args.sim.now knows (rw c.in-Deliver.is at can).0))

pub returns-in-Fail-clause-planned : goal.returns-in-Fail-clause-planned
returns-in-Fail-clause-planned c lines knows can =
    let k = rw c.in-Fail.is at can in
    rw c.in-Fail.is (line-some lines c.args.sim.now (event.Fail c.in-Fail.dev c.in-Fail.which c.in-Fail.k) (λ cursor h. refl) c.arm.result
    (c.arm.ensures lines c.args.places.now knows k.0 k.1 k.2))

pub returns-in-Stop-clause-planned : goal.returns-in-Stop-clause-planned
returns-in-Stop-clause-planned c lines knows can =
    let k = rw c.in-Stop.is at can in
    rw c.in-Stop.is (line-some lines c.args.sim.now (event.Stop c.in-Stop.dev c.in-Stop.which c.in-Stop.k c.in-Stop.mode) (λ cursor h. refl)
    c.arm-in-Stop.result (c.arm-in-Stop.ensures lines c.args.places.now knows k.0 k.1 k.2))

pub returns-in-Crash-clause-planned : goal.returns-in-Crash-clause-planned
returns-in-Crash-clause-planned c lines knows can =
    rw c.in-Crash.is (line-some lines c.args.sim.now (event.Crash c.in-Crash.shelf c.in-Crash.mode) (λ cursor h. refl) c.crash.result
    (c.crash.ensures lines c.args.sim.now knows (rw c.in-Crash.is at can)))

pub returns-in-Read-clause-planned : goal.returns-in-Read-clause-planned
returns-in-Read-clause-planned c =
    let k = asks-of c.in-Read.host c.in-Read.dev c.args.event.now c.in-Read.is in
    on-ok c.ask.result c.ask.ensures (λ o asks lines knows can.
    line-some lines c.args.sim.now c.args.event.now (k.only (setup_of lines) lines) o
    (rw k.is at (asks lines c.args.sim.now knows (k.can lines (setup_of lines) can))))
