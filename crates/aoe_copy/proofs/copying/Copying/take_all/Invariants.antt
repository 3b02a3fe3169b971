use Rattle.std.proofs.Common.{◌≡◌, List, length, suc}
use Rattle.aoe_initiator.specs.declared.outcome.Done.{Done}
use Rattle.aoe_initiator.specs.Host.{Matches}
use Rattle.aoe_initiator.specs.HostLog.{Event}
use Rattle.aoe_copy.specs.Copying.{AreUpTo, InOrder}
use Rattle.aoe_copy.specs.Window.{AreThere, HasAll, IsAsLong}
use Rattle.aoe_copy.proofs.copying.Copying.take_all.Given as goal

abbrev pub invariant-outcomes : goal.invariant-outcomes
invariant-outcomes l = record {
  there : (outs : List Done) → AreThere outs (suc l.fn.self.window.given) l.fn.self.window.slots.items → InOrder l.fn.self.host.waiting outs
      → AreThere outs (suc l.self.window.given) l.self.window.slots.items;
  all : (outs : List Done) → HasAll outs l.fn.self.host.waiting (suc l.fn.self.window.given) l.fn.self.window.slots.items
      → AreUpTo l.fn.self.host.last_ticket outs → InOrder l.fn.self.host.waiting outs
      → HasAll outs l.self.host.waiting (suc l.self.window.given) l.self.window.slots.items;
  order : (outs : List Done) → InOrder l.fn.self.host.waiting outs → InOrder l.self.host.waiting outs;
  host : l.self.host ≡ record l.fn.self.host { waiting = l.self.host.waiting };
  plan : l.self.plan ≡ l.fn.self.plan;
  reached : l.self.reached ≡ l.fn.self.reached;
  before : l.self.before ≡ l.fn.self.before;
  window : IsAsLong l.fn.self.window l.self.window;
  matches : (log : List Event) → Matches log l.fn.self.host → Matches log l.self.host;
}

abbrev pub decreases-outcomes : goal.decreases-outcomes
decreases-outcomes l = length l.self.host.waiting
