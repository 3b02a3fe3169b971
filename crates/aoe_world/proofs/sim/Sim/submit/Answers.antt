use Rattle.std.proofs.Common.{refl}
use Rattle.aoe_history.specs.Groups.Act.{Submit}
use Rattle.aoe_world.proofs.ActLemmas.{none-came}
use Rattle.aoe_world.proofs.HostActLemmas.{has-submitted}
use Rattle.aoe_world.proofs.ListLemmas.{read-at}
use Rattle.aoe_world.proofs.sim.Sim.submit.Goals as goal

pub returns : goal.returns
returns c s majors name net k (host, at, called) =
    let old = c.args.self.now in
    let there = read-at old.hosts.items c.args.host c.requires.there c.index_mut.ensures.value in
    has-submitted {x = c.index_mut.result.now} {y = c.submit.new.self}
    (record { net = net; ready = k; listed = at; called = called; there = there; life = c.submit.ensures.life; hosts = refl; shelves = refl })
    c.args.dev c.args.op c.in_ok-submit.ensures.ok

pub returns-in_err-submit : goal.returns-in_err-submit
returns-in_err-submit c s majors name net k at =
    none-came c.from_residual.result s majors (Submit name c.args.dev c.args.op) c.args.self.now _ c.from_residual.ensures.1
    refl c.in_err-submit.ensures.err k.lawful
