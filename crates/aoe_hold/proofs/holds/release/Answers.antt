use Rattle.std.proofs.Common.{◌≡◌, ◌∙◌, true, rules}
use Rattle.aoe_hold.specs.Commands.{finished}
use Rattle.aoe_hold.proofs.MoveLemmas.{released-fewer, released-more, released-room, released-same}
use Rattle.aoe_hold.proofs.holds.release.Goals as goal

pub queue-requires : goal.queue-requires
queue-requires g c =
    let room = released-room {one = c.pop_from.new.self} {w = c.in-Some.waiter} c.waiting.invariant c.in-Some.ensures.some.1 c.in-Some.ensures.room
    c.requires.timed c.requires.blocked in
    record { timed = room.0; blocked = room.1 }

pub waiting-preserved : goal.waiting-preserved
waiting-preserved g c =
    released-more {one = c.pop_from.new.self} {w = c.in-Some.waiter} c.waiting.invariant c.in-Some.ensures.some.1 c.in-Some.ensures.room
    (c.queue.ensures c.args.life.0 c.args.latest.0 c.args.commands.now c.keeper_by_walk-keeper.ensures)

pub waiting-smaller : goal.waiting-smaller
waiting-smaller g c =
    let done : finished c.args.ended.now.stage ≡ true = search rules in
    let queued = c.queue.ensures c.args.life.0 c.args.latest.0 c.args.commands.now c.keeper_by_walk-keeper.ensures in
    released-fewer c.args.ended.now c.in-Some.waiter c.waiting.blocked.items c.pop_from.new.self.items c.queue.new.blocked.items
    c.in-Some.ensures.some.1 (c.in-Some.ensures.some.0 ∙ c.from.ensures) done (queued.after c.args.ended.now (c.requires.done done))

pub returns-clause-released : goal.returns-clause-released
returns-clause-released g c =
    let same : c.pop_from.new.self.items ≡ c.waiting.blocked.items = search rules in
    released-same c.pop_from.new.self same c.pop_from.ensures.room c.waiting.invariant
