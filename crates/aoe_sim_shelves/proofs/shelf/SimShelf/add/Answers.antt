use Rattle.std.proofs.Common.{suc, ap, arith}
use Rattle.aoe_cache.specs.Any.{over}
use Rattle.aoe_sim_shelves.specs.Shelf.{SimShelf}
use Rattle.aoe_sim_shelves.proofs.FrontLemmas.{length_last, more_minors, more_targets}
use Rattle.aoe_sim_shelves.proofs.SeatLemmas.{new_serves, new_station, not_refused, seated_target, IsNew}
use Rattle.aoe_sim_shelves.proofs.Words.{Shelf}
use Rattle.aoe_sim_shelves.proofs.shelf.SimShelf.add.Goals as goal

pub seat-requires-clause-taken : goal.seat-requires-clause-taken
seat-requires-clause-taken c = not_refused _ _ (rw (← c.self.view_is) at c.requires.room) (rw (← c.self.view_is) at c.requires.repeats)

pub invariant_of-self : goal.invariant_of-self
invariant_of-self c =
    let shelf = c.self.inside.shelf in
    let seats = rw c.in-Ok.ensures.store at c.seat.ensures in
    let one = seated_target shelf.major shelf.ports shelf.mtu c.args.minor (over c.args.room c.in-Ok-Ok.store) c.requires.minor c.in-Ok-Ok.ensures' in
    record {
      number = rw seats c.self.invariant.number;
      count = rw (c.push.ensures.items, length_last c.self.inside.stops.items c.none.result, seats, length_last) (ap suc c.self.invariant.count);
      targets = rw seats (more_targets shelf _ c.self.invariant.targets one (rw (← c.self.view_is) at c.requires.repeats));
    }

pub returns-clause-serves : goal.returns-clause-serves
returns-clause-serves c slots k =
    let shelf = c.self.inside.shelf in
    let x : SimShelf = record { shelf = shelf; stops = c.self.inside.stops.items } in
    let seats = rw c.in-Ok.ensures.store at c.seat.ensures in
    let new : IsNew c.args.sectors c.args.read_only c.in-Ok-Ok.store c.in-Ok-Ok.keep = record { zeros = c.in-Ok-Ok.ensures; keep_is = c.in-Ok-Ok.ensures' } in
    rw (← c.self.view_is) (new_serves shelf.major shelf.ports shelf.mtu c.args.minor c.args.room new {x = x} (ap (λ (z : Shelf). z.targets) seats)
    (rw c.none.ensures at c.push.ensures.items) (rw (← c.self.view_is) at k))

pub returns-clause-added : goal.returns-clause-added
returns-clause-added c =
    let shelf = c.self.inside.shelf in
    let seats = rw c.in-Ok.ensures.store at c.seat.ensures in
    let new : IsNew c.args.sectors c.args.read_only c.in-Ok-Ok.store c.in-Ok-Ok.keep = record { zeros = c.in-Ok-Ok.ensures; keep_is = c.in-Ok-Ok.ensures' } in
    rw (← c.self.view_is, seats) (new_station shelf.major shelf.ports shelf.mtu c.args.minor c.args.room new shelf.targets)

pub returns-clause-count : goal.returns-clause-count
returns-clause-count c = rw (← c.self.view_is, c.seat.ensures, length_last) (omega arith)

pub returns-clause-minors : goal.returns-clause-minors
returns-clause-minors c = λ m. rw (← c.self.view_is, c.seat.ensures) (more_minors c.self.inside.shelf.targets _ m)
