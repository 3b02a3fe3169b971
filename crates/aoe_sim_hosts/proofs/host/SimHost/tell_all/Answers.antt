use Rattle.std.proofs.Common.{ap, ◌∙◌}
use Rattle.aoe_sim_hosts.specs.Host.{SimHost}
use Rattle.aoe_sim_hosts.proofs.TellLemmas.{noted-more, told-same}
use Rattle.aoe_history.specs.Run.{Recorded}
use Rattle.aoe_sim_hosts.proofs.host.SimHost.tell_all.Goals as goal

pub outcomes-preserved : goal.outcomes-preserved
outcomes-preserved c =
    let i = c.outcomes.invariant in
    let step = c.in-Some.ensures in
    let more = rw (ap (λ (x : SimHost). x.name) (c.self.view_is ∙ i.same)) at c.in_ok-tell.ensures.ok in
    record {
      life = ap (λ (r : Recorded). r.life) more ∙ i.life;
      same = told-same c.args.self.now c.outcomes.self c.self.inside.name c.self.inside.core c.take_done.new.self c.self.view_is i.same step.same;
      notes = noted-more c.args.self.now.name c.args.self.now.core.waiting c.outcomes.self.core.waiting c.take_done.new.self.waiting c.in-Some.done
          c.args.run.now.entries c.outcomes.run.entries c.tell.new.run.entries i.notes (rw (← c.self.view_is) step.first)
          (ap (λ (r : Recorded). r.entries) more);
    }
