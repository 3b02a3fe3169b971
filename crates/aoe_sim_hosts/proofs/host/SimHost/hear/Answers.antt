use Rattle.std.proofs.Common.{◌≡◌, refl, sym, ap, ◌∙◌}
use Rattle.aoe_sim_hosts.specs.Host.{SimHost}
use Rattle.aoe_sim_hosts.proofs.IdLemmas.{ids-same}
use Rattle.aoe_sim_hosts.proofs.TakeLemmas.{heard, is_stale}
use Rattle.aoe_sim_hosts.proofs.host.SimHost.hear.Goals as goal
use Rattle.aoe_sim_hosts.proofs.host.SimHost.hear.Goals.{in-Finished, in-Stale}

pub invariant_of-self : goal.invariant_of-self
invariant_of-self c = ids-same _ _ _ c.receive.ensures.same.0.devices c.self.invariant

pub returns-clause-heard : goal.returns-clause-heard
returns-clause-heard c =
    let z : SimHost = record { name = c.self.inside.name; core = c.receive.new.self } in
    let x : SimHost = record { name = c.self.inside.name; core = c.self.inside.core } in
    let said : is_stale c.receive.result ≡ c.match-receive.result = elim c.match-receive.branch [
      | in-Finished w ↦ ap is_stale w.in-Finished.is ∙ sym w.result-is
      | in-Stale w ↦ ap is_stale w.in-Stale.is ∙ sym w.result-is
    ] in
    rw (← c.self.view_is, ← said) (heard x z c.args.frame.now c.receive.result refl c.receive.ensures.same c.receive.ensures.taken)
