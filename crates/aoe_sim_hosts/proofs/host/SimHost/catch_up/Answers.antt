use Rattle.std.proofs.Common.{List, ap, ◌∙◌}
use Rattle.aoe_initiator.specs.declared.outcome.Done.{Done}
use Rattle.aoe_sim_hosts.specs.Host.{SimHost}
use Rattle.aoe_sim_hosts.proofs.IdLemmas.{ids-same}
use Rattle.aoe_sim_hosts.proofs.TellLemmas.{begun, told-all, Advanced}
use Rattle.aoe_sim_hosts.proofs.host.SimHost.catch_up.Goals as goal
use Rattle.aoe_history.proofs.LogicLemmas.{on-err, on-ok}

pub invariant_of-self : goal.invariant_of-self
invariant_of-self c = ids-same c.self.inside.ids.items c.self.inside.core.devices c.advance.new.self.devices c.advance.ensures.same.devices c.self.invariant

went : (c : goal.After-tell_all) → Advanced (record { name = c.self.inside.name; core = c.self.inside.core }) c.args.run.now.entries c.advance.new.self
went c = record {
  now = c.clock.result;
  at = c.clock.ensures;
  time = c.advance.ensures.clock;
  dones = c.advance.ensures.gives_up.0;
  waiting = c.advance.ensures.gives_up.1;
  gave = c.advance.ensures.gives_up.2;
  same = c.advance.ensures.same;
  last = c.advance.ensures.last;
}

pub returns-clause-ok : goal.returns-clause-ok
returns-clause-ok c = on-ok c.tell_all.result c.tell_all.ensures.ok (λ all s host got a lawful.
    told-all s host got c.args.run.now.entries _ (rw (← c.self.view_is) at a) lawful c.advance.new.self (went c)
    c.tell_all.new.run.entries c.tell_all.new.self all.0
    (c.tell_all.ensures.same
    ∙ ap (λ (w : List Done). let z : SimHost = record { name = c.self.inside.name; core = record c.advance.new.self { waiting = w } } in z) all.1))

pub returns-clause-err : goal.returns-clause-err
returns-clause-err c = on-err c.tell_all.result c.tell_all.ensures.err (λ some s host got a lawful.
    rw (← c.self.view_is)
    (begun s host got c.args.run.now.entries _ (rw (← c.self.view_is) at a) lawful c.advance.new.self (went c) c.tell_all.new.run.entries some.0 some.1))
