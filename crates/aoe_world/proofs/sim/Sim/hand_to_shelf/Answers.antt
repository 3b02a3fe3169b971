use Rattle.std.proofs.Common.{refl}
use Rattle.aoe_world.proofs.ShelfActLemmas.{arrived-by}
use Rattle.aoe_world.proofs.ListLemmas.{read-at}
use Rattle.aoe_world.proofs.sim.Sim.hand_to_shelf.Goals as goal

pub returns : goal.returns
returns c s majors major net k em fresh =
    let old = c.args.self.now in
    let ex = read-at old.shelves.items c.args.i c.requires c.index_mut.ensures.value in
    let came = rw (k.life, ← c.deref.ensures.0) at fresh in
    arrived-by {x = c.index_mut.result.now} {y = c.arrive.new.self}
    (record { net = net; ready = k; number = em; there = ex; life = c.arrive.ensures.life; hosts = refl; shelves = refl; same = c.arrive.ensures.major })
    c.arrive.result c.args.number.0 c.deref.result.now came c.arrive.ensures.ok c.arrive.ensures.err c.arrive.ensures.full
