use Rattle.std.proofs.Common.{◌≡◌, List, length}
use Rattle.aoe_initiator.specs.declared.outcome.Done.{Done}
use Rattle.aoe_initiator.specs.Host.{Matches}
use Rattle.aoe_initiator.specs.HostLog.{Event}
use Rattle.aoe_copy.specs.Copying.{InOrder}
use Rattle.aoe_copy.proofs.putting.Putting.take_all.Given as goal

abbrev pub invariant-outcomes : goal.invariant-outcomes
invariant-outcomes l = record {
  order : (outs : List Done) → InOrder l.fn.self.host.waiting outs → InOrder l.self.host.waiting outs;
  host : l.self.host ≡ record l.fn.self.host { waiting = l.self.host.waiting };
  same : l.self ≡ record l.fn.self { host = l.self.host; flying = l.self.flying };
  matches : (log : List Event) → Matches log l.fn.self.host → Matches log l.self.host;
}

abbrev pub decreases-outcomes : goal.decreases-outcomes
decreases-outcomes l = length l.self.host.waiting
