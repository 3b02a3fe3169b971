use Rattle.std.proofs.Common.{List, ◌≡◌, ◌+◌, ◌≤◌, suc, length}
use Rattle.aoe_initiator.specs.declared.outcome.Done.{Done}
use Rattle.aoe_copy.specs.Window.{AreThere, Given}
use Rattle.aoe_copy.proofs.window.Window.give.Given as goal

abbrev pub invariant-ready : goal.invariant-ready
invariant-ready g l = record {
  gives : (outs : List Done) → AreThere outs (suc l.fn.self.given) l.fn.self.slots.items
      → Given outs l.fn.self l.self (g.K.Sink.held l.fn.sink) (g.K.Sink.held l.sink);
  sum : l.self.given + length l.self.slots.items ≡ l.fn.self.given + length l.fn.self.slots.items;
  fewer : length l.self.slots.items ≤ length l.fn.self.slots.items;
  faults : g.K.Sink.faults l.sink ≡ g.K.Sink.faults l.fn.sink;
}

abbrev pub decreases-ready : goal.decreases-ready
decreases-ready g l = length l.self.slots.items
