use Rattle.std.proofs.Common.{◌≡◌, Some, is_some, sym, ap, ◌∙◌}
use Rattle.std.specs.Prelude.{position}
use Rattle.aoe_sim_hosts.proofs.IdLemmas.{place-kept, some-given}
use Rattle.aoe_sim_hosts.proofs.host.SimHost.device.Goals as goal
use Rattle.aoe_initiator.specs.declared.device.Device.{Device}
use Rattle.aoe_initiator.specs.HostLaw.{same_id}

pub returns-clause-place : goal.returns-clause-place
returns-clause-place c =
    let found : position (λ (d : Device). same_id d.about.id c.args.dev) c.args.self.now.core.devices ≡ c.place_of-place.result =
    rw (← c.self.view_is, ← place-kept c.self.inside.ids.items _ c.args.dev c.self.invariant, ← c.deref.ensures.value) (sym c.place_of-place.ensures)
    in
    found ∙ some-given c.place_of-place.result (ap is_some (sym found) ∙ c.requires.attached) ∙ ap Some (sym c.unwrap_or.ensures)
