use Rattle.std.proofs.Common.{List, length, ap, arith}
use Rattle.std.proofs.lemmas.List.{length-map}
use Rattle.aoe_initiator.specs.declared.device.Attached.{Attached}
use Rattle.aoe_initiator.specs.declared.device.Device.{Device}
use Rattle.aoe_host_tests.proofs.initiator.fill.Goals as goal

pub held-preserved : goal.held-preserved
held-preserved c =
    let same = ap (λ (l : List Attached). length l) c.in-Ok.ensures.same.0.devices in
    let before = length-map c.held.host.devices (λ (d : Device). d.about) in
    let after = length-map c.submit.new.self.devices (λ (d : Device). d.about) in
    record {
      few = omega (arith, c.held.invariant.few, c.in-Ok.ensures.same.2, c.in-Ok.ensures.ticket);
      attached = omega (arith, c.held.invariant.attached, same, before, after);
    }
