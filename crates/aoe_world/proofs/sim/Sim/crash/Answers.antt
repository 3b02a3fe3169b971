use Rattle.std.proofs.Common.{refl, inl, None}
use Rattle.aoe_history.specs.Groups.Act.{Crash}
use Rattle.aoe_history.specs.Setup.{shelf_of}
use Rattle.aoe_sim_shelves.proofs.Apart.{serves-stands}
use Rattle.aoe_world.proofs.ActLemmas.{short-of-memory}
use Rattle.aoe_world.proofs.AddsLemmas.{crash-adds}
use Rattle.aoe_world.proofs.ShelfActLemmas.{has-come}
use Rattle.aoe_world.proofs.ListLemmas.{read-at}
use Rattle.aoe_world.proofs.sim.Sim.crash.Goals as goal

pub returns : goal.returns
returns c s majors major net k em =
    let old = c.args.self.now in
    let x = c.index_mut.result.now in
    let ex = read-at old.shelves.items c.args.shelf c.requires c.index_mut.ensures.value in
    let stands = serves-stands (shelf_of s major) old.run.entries x (k.shelves_are.each c.args.shelf major x em ex) in
    let t = c.in_ok-crash.ensures.ok s (shelf_of s major) (net.slots c.args.shelf major em) stands k.lawful in (
      None,
      (refl, t.0),
      has-come {x = x} {y = c.crash.new.self}
          (record {
            net = net;
            ready = k;
            number = em;
            there = ex;
            life = c.in_ok-crash.ensures.life;
            hosts = refl;
            shelves = refl;
            same = c.in_ok-crash.ensures.major;
          }) t.1 t.2
          (λ p speaks. crash-adds c.args.how (shelf_of s major) speaks t.0),
    )

pub returns-in_err-crash : goal.returns-in_err-crash
returns-in_err-crash c s majors major net k em =
    let old = c.args.self.now in
    let x = c.index_mut.result.now in
    let ex = read-at old.shelves.items c.args.shelf c.requires c.index_mut.ensures.value in
    let stands = serves-stands (shelf_of s major) old.run.entries x (k.shelves_are.each c.args.shelf major x em ex) in
    let t = c.in_err-crash.ensures.err s (shelf_of s major) (net.slots c.args.shelf major em) stands k.lawful in
    short-of-memory c.from_residual.result s majors (Crash major c.args.how) old _ c.from_residual.ensures.1 (inl t.0) t.1
