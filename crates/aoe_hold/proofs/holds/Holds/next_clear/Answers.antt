use Rattle.std.proofs.Common.{◌≡◌, arith, map, rules}
use Rattle.std.specs.Prelude.{option_copied, option_map, slice_get}
use Rattle.aoe_hold.specs.Commands.{clear_tickets}
use Rattle.aoe_hold.specs.Queue.{ticket_of}
use Rattle.aoe_hold.specs.declared.queue.Waiter.{Waiter}
use Rattle.aoe_hold.proofs.HoldLemmas.{held-moved, index-few, index-moved, index-ready, steps-few}
use Rattle.aoe_hold.proofs.OutsideLemmas.{gone-later}
use Rattle.aoe_hold.proofs.TableLemmas.{answer-clear, answer-lowest, answer-none, time-of, time-recalls, time-value}
use Rattle.aoe_hold.proofs.WaitLemmas.{head-ticket}
use Rattle.aoe_hold.proofs.holds.Holds.next_clear.Given.{Over}
use Rattle.aoe_hold.proofs.holds.Holds.next_clear.Goals as goal
use Rattle.aoe_hold.proofs.holds.Holds.next_clear.Goals.{After-map}

pub make_ready-requires : goal.make_ready-requires
make_ready-requires g c = omega (arith, index-few c.self.invariant.0.2 c.self.invariant.1, c.self.invariant.1.ready_room)

pub invariant_of-self : goal.invariant_of-self
invariant_of-self g c =
    let later = time-of c.self.view_is c.args.now.0 c.requires in (
      c.self.invariant.0,
      index-moved later c.make_ready.ensures.moved c.self.invariant.1,
      c.self.invariant.2,
      held-moved c.make_ready.ensures.moved c.self.invariant.3,
      gone-later c.self.inside.life.0 c.self.inside.latest.0 c.args.now.0 c.self.inside.gone c.self.inside.commands.items later c.self.invariant.4,
      c.self.invariant.5,
      c.self.invariant.6,
      c.self.invariant.7,
    )

-- the ready queue has the clear commands, and the first of them is told
ready : (g : Over) (c : After-map g)
    → map ticket_of c.make_ready.new.ready.items ≡ clear_tickets c.self.inside.life.0 c.args.now.0 c.self.inside.commands.items
ready g c =
    let index = index-moved (time-of c.self.view_is c.args.now.0 c.requires) c.make_ready.ensures.moved c.self.invariant.1 in
    index-ready c.self.invariant.0.0 index c.make_ready.ensures.late c.look-first.ensures.order

first : (g : Over) (c : After-map g)
    → option_map (λ t. t.0) c.map.result ≡ slice_get (clear_tickets c.self.inside.life.0 c.args.now.0 c.self.inside.commands.items) 0
first g c =
    let mapped : c.map.result ≡ option_map (λ (w : Waiter). w.command.ticket) (option_copied c.look-first.result) = search rules in
    rw (mapped, c.look-first.ensures.value, ← ready g c) (head-ticket c.make_ready.new.ready.items)

pub returns-clause-clear : goal.returns-clause-clear
returns-clause-clear g c = answer-clear c.self.view_is c.args.now.0 c.requires c.map.result (first g c)

pub returns-clause-lowest : goal.returns-clause-lowest
returns-clause-lowest g c = answer-lowest c.self.view_is c.args.now.0 c.requires c.map.result (first g c) c.self.invariant.0.0

pub returns-clause-none : goal.returns-clause-none
returns-clause-none g c = answer-none c.self.view_is c.args.now.0 c.requires c.map.result (first g c)

pub returns-clause-same : goal.returns-clause-same
returns-clause-same g c = time-value c.self.view_is c.args.now.0 _ (ready g c)

pub returns-clause-recalls : goal.returns-clause-recalls
returns-clause-recalls g c = time-recalls c.self.view_is c.args.now.0 c.requires

pub returns-clause-bound : goal.returns-clause-bound
returns-clause-bound g c =
    rw (← c.self.view_is) (steps-few c.args.steps.now c.look-first.new.steps c.make_ready.new.steps c.self.inside.ready.items _ _ (ready g c)
    c.make_ready.ensures.steps c.look-first.ensures.step)
