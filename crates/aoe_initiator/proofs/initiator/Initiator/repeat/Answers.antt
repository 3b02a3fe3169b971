use Rattle.std.proofs.Common.{◌≡◌, ◌<◌, length, Option, Some, ap, arith, refl, rules, subst}
use Rattle.std.specs.Prelude.{slice_get, IfSome}
use Rattle.std.proofs.lemmas.Option.{slice_get_read}
use Rattle.aoe_base.specs.declared.counted.PathNo.{PathNo}
use Rattle.aoe_flight.specs.FlightTable.{FlightTable}
use Rattle.aoe_initiator.specs.declared.device.Device.{Device}
use Rattle.aoe_initiator.specs.declared.pending.Pending.{Pending}
use Rattle.aoe_initiator.specs.Devices.{IsRoute}
use Rattle.aoe_initiator.specs.Steps.{place}
use Rattle.aoe_initiator.proofs.ListLemmas.{get-there, placed-within}
use Rattle.aoe_initiator.proofs.SoundLemmas.{sound-sent}
use Rattle.aoe_initiator.proofs.StepLemmas.{repeats-from}
use Rattle.aoe_initiator.proofs.initiator.Initiator.repeat.Goals as goal

pub invariant_of-self : goal.invariant_of-self
invariant_of-self c =
    let time = ap (λ (t : FlightTable). t.latest) c.repeat.ensures.value in
    rw c.note_sent-route.ensures.value
    (sound-sent c.self.invariant _ c.args.ticket (Some c.flying-flying.result.path) c.note_sent-route.result.path c.repeat.new.self (omega (arith, time)))

pub returns-clause-sent : goal.returns-clause-sent
returns-clause-sent c =
    let found : place c.args.ticket c.self.inside.pending.items ≡ Some c.in_ok-at.at = search rules in
    let p : Pending = c.index-command.result.now in
    let attached : p.device.0 < length c.self.inside.devices.items = search rules in
    let d = get-there c.self.inside.devices.items p.device.0 attached in
    let missed : Option PathNo = Some c.flying-flying.result.path in
    let R : Option Device → Type 0 = λ o. IfSome o (λ e. IsRoute e missed c.note_sent-route.result) in
    let routed : IsRoute d.0 missed c.note_sent-route.result = subst R d.1 c.note_sent-route.ensures.route in
    let items = c.self.inside.pending.items in
    let inside : c.in_ok-at.at < length items = placed-within _ items c.in_ok-at.at p found in
    let there : slice_get items c.in_ok-at.at ≡ Some p = slice_get_read items (length items) c.in_ok-at.at p refl inside c.index-command.ensures in
    rw (← c.self.view_is)
    (repeats-from _ c.args.ticket c.in_ok-at.at c.flying-flying.result c.write_request.new.out.items c.wait_after-wait.result
    c.repeat.new.self c.note_sent-route.new.devices.items found (record { there = there; held = d.1; routed = routed })
    c.flying-flying.ensures.value c.write_request.ensures.bytes c.wait_after-wait.ensures c.repeat.ensures.value c.note_sent-route.ensures.value)
