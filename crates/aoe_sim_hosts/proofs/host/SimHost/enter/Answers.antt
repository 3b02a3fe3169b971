use Rattle.std.proofs.Common.{ap, ◌∙◌}
use Rattle.aoe_sim_hosts.specs.Host.{SimHost}
use Rattle.aoe_sim_hosts.proofs.IdLemmas.{ids-same}
use Rattle.aoe_sim_hosts.proofs.SubmitLemmas.{devices-stay, entered, Answers}
use Rattle.aoe_sim_hosts.proofs.host.SimHost.enter.Goals as goal

pub invariant_of-self : goal.invariant_of-self
invariant_of-self c =
    let e = c.submit-answer.ensures in
    ids-same _ _ _ (devices-stay c.self.inside.core c.submit-answer.new.self c.submit-answer.result e.same e.unchanged) c.self.invariant

pub returns-clause-ok : goal.returns-clause-ok
returns-clause-ok c =
    let z : SimHost = record { name = c.self.inside.name; core = c.submit-answer.new.self } in
    let name = ap (λ (x : SimHost). x.name) c.self.view_is in
    let e = c.submit-answer.ensures in
    let f = c.entry_of.ensures in
    let d = c.device-device in
    let core : Answers c.args.self.now.core c.submit-answer.new.self d.result c.args.op c.submit-answer.result = rw (← c.self.view_is)
    (record { refused = e.refused; no_memory = e.no_memory; ticket = e.ticket; matches = e.matches; same = e.same; unchanged = e.unchanged }) in
    entered c.args.self.now c.args.dev d.result c.args.op c.held_law.ensures c.requires.can d.ensures.place d.ensures.inside z c.args.copy c.copy_of-host.result
    c.requires.same (c.copy_of-host.ensures ∙ name) name c.submit-answer.result core c.entry_of.result f.taken f.refused
