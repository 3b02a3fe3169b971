use Rattle.std.proofs.Common.{◌≡◌, ◌+◌, ◌≤◌, ◌∷◌, length, arith}
use Rattle.std.specs.Array.Iter.{array_into_iter_items}
use Rattle.aoe_soak.proofs.AddLemmas.{one_added, room}
use Rattle.aoe_soak.proofs.add.add_all.Goals as goal

pub add-requires-clause-room : goal.add-requires-clause-room
add-requires-clause-room g c =
    let all = array_into_iter_items c.into_iter-event-iterator.result in
    let left : array_into_iter_items c.events.event-iterator ≡ c.in-Some.event ∷ array_into_iter_items c.next.new.self = c.in-Some.ensures.steps in
    let few : length c.args.script.now.events + length all ≤ 50000 = omega (arith, c.into_iter-event-iterator.ensures.into_iter_gives.1, c.requires.room) in
    room c.args.script.now c.events.script all _ _ _ 50000 c.events.invariant left few

pub events-preserved : goal.events-preserved
events-preserved g c =
    let left : array_into_iter_items c.events.event-iterator ≡ c.in-Some.event ∷ array_into_iter_items c.next.new.self = c.in-Some.ensures.steps in
    one_added c.args.script.now c.events.script c.add.new.script _ _ _ _ c.events.invariant left c.in_ok-add.ensures
