-- What is known when the disk was armed.
use Rattle.std.proofs.Common.{ap}
use Rattle.aoe_history.specs.Run.{Recorded}
use Rattle.aoe_sim_shelves.proofs.ArmLemmas.{armed-same, arming-kept, arming-serves, IsArming}
use Rattle.aoe_sim_shelves.proofs.ShelfLemmas.{stations-kept}
use Rattle.aoe_sim_shelves.proofs.shelf.SimShelf.arm.Goals as goal

pub invariant_of-self : goal.invariant_of-self
invariant_of-self c =
    let z : IsArming _ _ c.args.k c.args.mode c.self.inside.shelf c.arm_disk.new.shelf c.self.inside.stops.items _ _ _ = record {
      first = c.requires.first;
      change = rw c.arm_of.ensures at c.arm_disk.ensures.arms;
      rest = c.arm_disk.ensures.rest;
      name = rw (← c.self.view_is) at c.id.ensures;
      count = c.self.invariant.count;
      is = rw c.deref.ensures.0 at c.with.ensures;
    } in
    rw c.deref_mut.ensures.value (arming-kept z c.self.invariant)

pub returns-clause-serves : goal.returns-clause-serves
returns-clause-serves c slots apart serves =
    let z : IsArming _ _ c.args.k c.args.mode c.self.inside.shelf c.arm_disk.new.shelf c.self.inside.stops.items _ _ _ = record {
      first = c.requires.first;
      change = rw c.arm_of.ensures at c.arm_disk.ensures.arms;
      rest = c.arm_disk.ensures.rest;
      name = rw (← c.self.view_is) at c.id.ensures;
      count = c.self.invariant.count;
      is = rw c.deref.ensures.0 at c.with.ensures;
    } in
    rw (ap (λ (r : Recorded). r.entries) c.in_ok-note.ensures.ok, c.deref_mut.ensures.value) (arming-serves z apart (rw (← c.self.view_is) at serves))

pub returns-clause-stations : goal.returns-clause-stations
returns-clause-stations c =
    let e = c.arm_disk.ensures.arms in
    rw (← c.self.view_is) (stations-kept e (armed-same c.args.which c.arm_of.result e.change).station)
