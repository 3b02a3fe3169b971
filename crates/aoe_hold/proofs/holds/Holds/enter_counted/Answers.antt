use Rattle.std.proofs.Common.{◌≡◌, ◌+◌, ◌*◌, ◌++◌, List, [], ◌∷◌, ◌^◌, ◌-◌, ◌<◌, ◌≤◌, length, true, not, refl, sym, ◌∙◌, ap, arith}
use Rattle.aoe_hold.specs.declared.command.Command.{Command}
use Rattle.aoe_hold.specs.Commands.{is_past, live, unsent_count}
use Rattle.aoe_hold.specs.declared.queue.Waiter.{Waiter}
use Rattle.aoe_hold.specs.HoldTable.{new_command}
use Rattle.std.specs.List.{count_by}
use Rattle.aoe_hold.specs.Extents.{goes_by_span, kept_extent, key_of}
use Rattle.aoe_hold.specs.Looks.{is_near}
use Rattle.aoe_hold.proofs.ExtentLemmas.{covers-entered, covers-left, covers-more, none-past-above}
use Rattle.aoe_hold.proofs.KeyLemmas.{keys-entered, keys-fewer}
use Rattle.aoe_hold.proofs.HoldLemmas.{held-entered, held-few, held-reserved, index-entered, index-reserved}
use Rattle.aoe_hold.proofs.LiveLemmas.{count-live}
use Rattle.aoe_hold.proofs.NearLemmas.{entered-few}
use Rattle.aoe_hold.proofs.OrderLemmas.{all-below, ascending-filter, enter-ascending, enter-up_to, up_to-filter}
use Rattle.aoe_hold.proofs.OutsideLemmas.{gone-none}
use Rattle.aoe_hold.proofs.PastLemmas.{one-entered, past-entered}
use Rattle.aoe_hold.proofs.TableLemmas.{above-view, count-enter, enter-recalls, room-view}
use Rattle.aoe_hold.proofs.holds.Holds.enter_counted.Goals as goal

pub overflow_add-self : goal.overflow_add-self
overflow_add-self g c =
    let room : unsent_count c.self.inside.commands.items < 2 ^ 32 - 1 = room-view c.args.self.now _ (2 ^ 32 - 1) c.self.view_is c.requires.room in
    omega (arith, c.self.invariant.0.2, room)

pub make_room-requires-clause-timed : goal.make_room-requires-clause-timed
make_room-requires-clause-timed g c = omega (arith, held-few c.self.invariant.0.2 c.self.invariant.3)

pub make_room-requires-clause-ready : goal.make_room-requires-clause-ready
make_room-requires-clause-ready g c = omega (arith, held-few c.self.invariant.0.2 c.self.invariant.3)

pub make_room-requires-clause-blocked : goal.make_room-requires-clause-blocked
make_room-requires-clause-blocked g c = omega (arith, held-few c.self.invariant.0.2 c.self.invariant.3)

pub invariant_of-self : goal.invariant_of-self
invariant_of-self g c =
    let made = c.make_room.ensures in
    rw made.commands (
      c.self.invariant.0,
      index-reserved _ _ made.timed made.ready made.timed_more made.ready_more c.self.invariant.1,
      c.self.invariant.2,
      held-reserved _ _ _ made.timed made.ready made.blocked made.blocked_more c.self.invariant.3,
      c.self.invariant.4,
      covers-more c.self.inside.extent c.self.inside.commands.keys _ _ (λ d. made.keys (key_of d)) c.self.invariant.5,
      keys-fewer c.self.invariant.6 c.in_err-make_room.ensures.err,
      c.self.invariant.7,
    )

pub queue-requires-clause-timed : goal.queue-requires-clause-timed
queue-requires-clause-timed g c =
    let same = ap (λ (l : List Waiter). length l) c.make_room.ensures.timed in
    omega (arith, held-few c.self.invariant.0.2 c.self.invariant.3, same, c.in_ok-make_room.ensures.timed_room)

pub queue-requires-clause-blocked : goal.queue-requires-clause-blocked
queue-requires-clause-blocked g c =
    let same = ap (λ (l : List Waiter). length l) c.make_room.ensures.blocked in
    omega (arith, held-few c.self.invariant.0.2 c.self.invariant.3, same, c.in_ok-make_room.ensures.blocked_room)

pub invariant_of-self-2 : goal.invariant_of-self-2
invariant_of-self-2 g c =
    let made = c.make_room.ensures in
    let held = c.self.inside.commands.items in
    let life = c.self.inside.life.0 in
    let latest = c.self.inside.latest.0 in
    let kept = live life latest held in
    let new = new_command c.args.ticket c.args.kind c.args.span in
    let dropped : c.forget-self-inside.new.self.items ≡ kept = c.forget-self-inside.ensures.live ∙ ap (live life latest) made.commands in
    let items : c.push.new.self.items ≡ kept ++ new ∷ [] = c.push.ensures.items ∙ ap (λ l. l ++ new ∷ []) dropped in
    let above = above-view c.args.self.now _ c.args.ticket.0 c.self.view_is c.requires.above in
    let up = ascending-filter (λ (d : Command). not (is_past life latest d)) held c.self.invariant.0.0 in
    let most = up_to-filter (λ (d : Command). not (is_past life latest d)) _ held c.self.invariant.0.1 in
    let index = index-reserved c.make_room.new.timed c.make_room.new.ready made.timed made.ready made.timed_more made.ready_more c.self.invariant.1 in
    let queues =
    held-reserved c.make_room.new.timed c.make_room.new.ready c.make_room.new.blocked made.timed made.ready made.blocked made.blocked_more c.self.invariant.3 in
    let queued = rw dropped at (c.queue.ensures life latest c.forget-self-inside.new.self.items c.keeper_of-keeper.ensures.keeper) in
    let keeps = rw made.commands at c.forget-self-inside.ensures.keys in
    let widens = rw dropped at c.kept-extent.ensures.covers in
    let covers = covers-left c.self.inside.extent c.kept-extent.result c.self.inside.commands.keys _ _ life latest held c.self.invariant.0.0
    (λ d. made.keys (key_of d)) keeps widens c.self.invariant.5 in
    let keyed = keeps new (none-past-above life latest held new (all-below _ new.ticket.0 held above c.self.invariant.0.1)) c.in_ok-make_room.ensures.key in
    rw items (
      (
        enter-ascending _ kept new up most above,
        enter-up_to _ kept new most above,
        ap (λ n. n + 1) (c.self.invariant.0.2 ∙ sym (count-live life latest held)) ∙ sym (count-enter kept new refl),
      ),
      index-entered queued refl _ c.self.invariant.0.1 above c.in_ok-make_room.ensures.timed_room c.in_ok-make_room.ensures.ready_room index,
      past-entered life c.forget-self-inside.result kept new refl (rw dropped at c.forget-self-inside.ensures.none),
      held-entered queued refl c.in_ok-make_room.ensures.blocked_room queues,
      gone-none life latest (kept ++ new ∷ []),
      rw (c.widened-self-inside.ensures, c.push.ensures.keys) (covers-entered c.kept-extent.result c.forget-self-inside.new.self.keys kept new keyed covers),
      rw c.push.ensures.keys (keys-entered new c.in_ok-make_room.ensures.only (rw made.commands at c.forget-self-inside.ensures.left) c.self.invariant.6),
      one-entered life c.forget-self-inside.result kept new (rw dropped at (c.forget-self-inside.ensures.one (rw made.commands c.self.invariant.7))),
    )

pub returns-clause-recalls : goal.returns-clause-recalls
returns-clause-recalls g c =
    let life = c.self.inside.life.0 in
    let latest = c.self.inside.latest.0 in
    let new = new_command c.args.ticket c.args.kind c.args.span in
    let kept = c.forget-self-inside.ensures.live ∙ ap (live life latest) c.make_room.ensures.commands in
    rw (c.push.ensures.items ∙ ap (λ l. l ++ new ∷ []) kept) (enter-recalls c.self.view_is new)

pub keeper_of-keeper-requires-clause-ascending : goal.keeper_of-keeper-requires-clause-ascending
keeper_of-keeper-requires-clause-ascending g c =
    let life = c.self.inside.life.0 in
    let latest = c.self.inside.latest.0 in
    rw (c.forget-self-inside.ensures.live ∙ ap (live life latest) c.make_room.ensures.commands)
    (ascending-filter (λ (d : Command). not (is_past life latest d)) c.self.inside.commands.items c.self.invariant.0.0)

pub keeper_of-keeper-requires-clause-covers : goal.keeper_of-keeper-requires-clause-covers
keeper_of-keeper-requires-clause-covers g c =
    let made = c.make_room.ensures in
    let dropped = c.forget-self-inside.ensures.live ∙ ap (live c.self.inside.life.0 c.self.inside.latest.0) made.commands in
    let keeps = rw made.commands at c.forget-self-inside.ensures.keys in
    let widens = rw dropped at c.kept-extent.ensures.covers in
    rw dropped
    (covers-left _ _ _ _ _ c.self.inside.life.0 c.self.inside.latest.0 c.self.inside.commands.items c.self.invariant.0.0
    (λ d. made.keys (key_of d)) keeps widens c.self.invariant.5)

pub returns-clause-bound : goal.returns-clause-bound
returns-clause-bound g c =
    let made = c.make_room.ensures in
    let life = c.self.inside.life.0 in
    let latest = c.self.inside.latest.0 in
    let new = new_command c.args.ticket c.args.kind c.args.span in
    let left = live life latest c.self.inside.commands.items in
    let dropped : c.forget-self-inside.new.self.items ≡ left = c.forget-self-inside.ensures.live ∙ ap (live life latest) made.commands in
    let extent : c.kept-extent.result ≡ kept_extent c.self.inside.extent left = c.kept-extent.ensures.value ∙ ap (kept_extent c.self.inside.extent) dropped in
    let most = rw made.commands at c.forget-self-inside.ensures.steps in
    let owned = keys-entered new c.in_ok-make_room.ensures.only (rw made.commands at c.forget-self-inside.ensures.left) c.self.invariant.6 in
    let by_span : goes_by_span (kept_extent c.self.inside.extent left) new.kind ≡ true
    → c.keeper_of-keeper.new.steps ≤ c.forget-self-inside.new.steps + 2 + 2 * count_by (is_near (kept_extent c.self.inside.extent left) new)
    (left ++ new ∷ []) =
    λ goes. rw (← extent) (c.keeper_of-keeper.ensures.by_span (rw extent goes) (left ++ new ∷ []) owned) in
    let by_walk = rw (dropped, extent) at c.keeper_of-keeper.ensures.by_walk in
    entered-few _ c.args.self.now new c.self.inside.past_from c.args.steps.now c.forget-self-inside.new.steps c.keeper_of-keeper.new.steps c.self.view_is
    c.self.invariant.7 (omega arith) c.forget-self-inside.ensures.quiet most by_span by_walk
