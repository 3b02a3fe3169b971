use Rattle.std.proofs.Common.{◌≡◌, length}
use Rattle.aoe_sim_hosts.specs.Turns.{Notes}
use Rattle.aoe_sim_hosts.proofs.host.SimHost.tell_all.Given as goal

abbrev pub invariant-outcomes : goal.invariant-outcomes
invariant-outcomes l = record {
  life : l.run.life ≡ l.fn.run.life;
  same : l.self ≡ record l.fn.self { core = record l.fn.self.core { waiting = l.self.core.waiting } };
  notes : Notes l.fn.self.name l.fn.self.core.waiting l.self.core.waiting l.fn.run.entries l.run.entries;
}

abbrev pub decreases-outcomes : goal.decreases-outcomes
decreases-outcomes l = length l.self.core.waiting
