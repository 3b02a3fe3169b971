use Rattle.std.proofs.Common.{refl}
use Rattle.aoe_history.specs.Groups.Act.{Hand}
use Rattle.aoe_history.specs.Groups.Station.{Host as HostStation}
use Rattle.aoe_world.proofs.ActLemmas.{none-came}
use Rattle.aoe_world.proofs.HostActLemmas.{has-taken}
use Rattle.aoe_world.proofs.ListLemmas.{read-at}
use Rattle.aoe_world.proofs.sim.Sim.hand_to_host.Goals as goal

pub returns : goal.returns
returns c s majors name net k (host, at, called) fresh =
    let old = c.args.self.now in
    let there = read-at old.hosts.items c.args.i c.requires c.index_mut.ensures.value in
    let came = rw (k.life, ← c.deref.ensures.0) at fresh in
    has-taken {x = c.index_mut.result.now} {y = c.take.new.self}
    (record { net = net; ready = k; listed = at; called = called; there = there; life = c.in_ok-take.ensures.life; hosts = refl; shelves = refl })
    c.args.number.0 c.deref.result.now came c.in_ok-take.ensures.ok

pub returns-in_err-take : goal.returns-in_err-take
returns-in_err-take c s majors name net k at fresh =
    none-came c.from_residual.result s majors (Hand c.args.number.0 (HostStation name)) c.args.self.now _ c.from_residual.ensures.1
    refl c.in_err-take.ensures.err k.lawful
