use Rattle.std.proofs.Common.{refl, ap, arith, None}
use Rattle.std.proofs.lemmas.Option.{slice_get_within}
use Rattle.aoe_history.specs.Groups.Act.{Arm}
use Rattle.aoe_history.specs.Setup.{shelf_of}
use Rattle.aoe_world.proofs.ActLemmas.{none-came}
use Rattle.aoe_world.proofs.ShelfActLemmas.{has-armed}
use Rattle.aoe_world.proofs.ListLemmas.{read-at}
use Rattle.aoe_world.proofs.sim.Sim.arm.Goals as goal
use Rattle.aoe_initiator.proofs.ListLemmas.{get-there as there-is}

pub returns : goal.returns
returns c s majors net k =
    let old = c.args.self.now in
    let x = c.index_mut.result.now in
    let there = read-at old.shelves.items c.args.shelf c.requires.shelf c.index_mut.ensures.value in
    let major = there-is majors c.args.shelf (omega (arith, slice_get_within old.shelves.items c.args.shelf x there, k.shelves_are.count)) in
    let serves = k.shelves_are.each c.args.shelf major.0 x major.1 there in
    let after = c.in_ok-arm.ensures.serves (shelf_of s major.0) (net.slots c.args.shelf major.0 major.1).apart serves in
    let t = there-is x.shelf.targets c.args.slot (rw there at c.requires.slot) in
    let run = rw t.1 at c.in_ok-arm.ensures.ok in
    rw (there, t.1) (
      None,
      (refl, ap (λ q. q.entries) run),
      has-armed {x = x} {y = c.arm.new.self}
          (record {
            net = net;
            ready = k;
            number = major.1;
            there = there;
            life = ap (λ q. q.life) run;
            hosts = refl;
            shelves = refl;
            same = c.in_ok-arm.ensures.major;
          })
          (rw run (tt, k.lawful)) after serves c.args.slot t.0 c.args.which c.args.k c.args.mode t.1 (ap (λ q. q.entries) run),
    )

pub returns-in_err-arm : goal.returns-in_err-arm
returns-in_err-arm c s majors net k =
    let x = read-at c.args.self.now.shelves.items c.args.shelf c.requires.shelf c.index_mut.ensures.value in
    let t = there-is c.index_mut.result.now.shelf.targets c.args.slot (rw x at c.requires.slot) in
    rw (x, t.1) (none-came c.from_residual.result s majors (Arm t.0.station.id c.args.which c.args.k c.args.mode) c.args.self.now _
    c.from_residual.ensures.1 refl c.in_err-arm.ensures.err k.lawful)
