-- What is known when the frame was handed to the target: one turn.
use Rattle.std.proofs.Common.{◌≡◌, Err, refl, ap, ◌∙◌}
use Rattle.aoe_net.specs.declared.refusal.NetRefusal.TheVariants.{Full}
use Rattle.aoe_history.specs.Run.{Recorded}
use Rattle.aoe_sim_shelves.specs.Shelf.{SimShelf}
use Rattle.aoe_sim_shelves.proofs.ArrivalLemmas.{turn-comes, turn-full, IsTurn}
use Rattle.aoe_sim_shelves.proofs.ShelfLemmas.{both-changes, shelf-kept, receives-same, stations-kept}
use Rattle.aoe_sim_shelves.proofs.shelf.SimShelf.arrive_at.Goals as goal

pub invariant_of-self : goal.invariant_of-self
invariant_of-self c =
    let r = c.receive_slot-heard.ensures in
    shelf-kept c.self.invariant.targets r.receives r.rest (receives-same r.receives.change) _ c.self.invariant refl

pub invariant_of-self-2 : goal.invariant_of-self-2
invariant_of-self-2 c =
    let r = c.receive_slot-heard.ensures in
    shelf-kept c.self.invariant.targets r.receives r.rest (receives-same r.receives.change) _ c.self.invariant refl

pub returns-in-Err-clause-full : goal.returns-in-Err-clause-full
returns-in-Err-clause-full c limit full s slots reached =
    let before : SimShelf = record { shelf = c.self.inside.shelf; stops = c.self.inside.stops.items } in
    let turn : IsTurn _ _ _ _ before (record before { shelf = c.receive_slot-heard.new.self }) _ _ _ = record {
      change = both-changes c.receive_slot-heard.ensures.receives c.receive_slot-heard.ensures.under;
      same = refl;
      name = c.id-dev.ensures;
      count = c.self.invariant.count;
      is = rw c.deref.ensures.0 at c.stop_at-stop.ensures;
    } in
    let is : c.in-Err.refusal ≡ Full limit = cc in
    rw c.in-Err.ensures.err
    (turn-full turn (rw (← c.self.view_is) at reached) c.args.run.now.life (c.take_down.ensures.full limit (c.in-Err.is ∙ ap Err is)))

pub returns-clause-comes : goal.returns-clause-comes
returns-clause-comes c s slots reached =
    let before : SimShelf = record { shelf = c.self.inside.shelf; stops = c.self.inside.stops.items } in
    let turn : IsTurn _ _ _ _ before (record before { shelf = c.receive_slot-heard.new.self }) _ _ _ = record {
      change = both-changes c.receive_slot-heard.ensures.receives c.receive_slot-heard.ensures.under;
      same = refl;
      name = c.id-dev.ensures;
      count = c.self.invariant.count;
      is = rw c.deref.ensures.0 at c.stop_at-stop.ensures;
    } in
    turn-comes turn (rw (← c.self.view_is) at reached) _ (ap (λ (r : Recorded). r.entries) c.in-Ok.ensures.ok)

pub returns-in-Err-clause-stations : goal.returns-in-Err-clause-stations
returns-in-Err-clause-stations c =
    let r = c.receive_slot-heard.ensures in rw (← c.self.view_is) (stations-kept r.receives r.receives.change.station)

pub returns-clause-stations : goal.returns-clause-stations
returns-clause-stations c =
    let r = c.receive_slot-heard.ensures in rw (← c.self.view_is) (stations-kept r.receives r.receives.change.station)
