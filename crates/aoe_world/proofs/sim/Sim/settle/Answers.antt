use Rattle.std.proofs.Common.{refl, arith}
use Rattle.aoe_world.proofs.TurnLemmas.{going-broken, going-done, going-on}
use Rattle.aoe_world.proofs.ListLemmas.{read-at}
use Rattle.aoe_world.proofs.sim.Sim.settle.Goals as goal

pub returns-in-Err : goal.returns-in-Err
returns-in-Err c =
    let there = read-at c.hosts.self.hosts.items c.hosts.i (omega (arith, c.hosts-test.true, c.hosts.invariant.count)) c.index_mut.ensures.value in
    going-broken c.index_mut.result.now c.hosts.invariant there c.turn.new.run.entries c.in-Err.refusal c.in-Err.ensures.err
    (λ limit e. c.in-Err.ensures.full limit (cc))

pub hosts-preserved : goal.hosts-preserved
hosts-preserved c =
    let there = read-at c.hosts.self.hosts.items c.hosts.i (omega (arith, c.hosts-test.true, c.hosts.invariant.count)) c.index_mut.ensures.value in
    going-on c.index_mut.result.now c.hosts.invariant there _ c.turn.new.self c.in-Ok.ensures.ok c.in-Ok.ensures.life refl refl refl

pub returns : goal.returns
returns c = going-done c.hosts.invariant (omega (arith, c.hosts-test.false))
