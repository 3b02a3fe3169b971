use Rattle.std.proofs.Common.{ap}
use Rattle.aoe_history.specs.Run.{Recorded}
use Rattle.aoe_sim_hosts.proofs.SubmitLemmas.{submitted-with}
use Rattle.aoe_history.proofs.LogicLemmas.{on-ok}
use Rattle.aoe_sim_hosts.proofs.host.SimHost.submit.Goals as goal

pub returns-clause-ok : goal.returns-clause-ok
returns-clause-ok c = on-ok c.note.result c.note.ensures.ok (λ is s host y lawful.
    submitted-with s host c.args.run.now.entries c.note.new.self.entries c.args.self.now c.enter.new.self c.args.dev c.args.op c.in_ok-entry.entry
    (ap (λ (r : Recorded). r.entries) is) (c.in_ok-entry.ensures.ok s host c.args.run.now.entries y lawful))
