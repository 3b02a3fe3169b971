use Rattle.std.proofs.Common.{◌≡◌, ◌<◌, Option, Some, None, length, ap, arith, refl, rules, subst, sym}
use Rattle.std.specs.Prelude.{slice_get, IfSome}
use Rattle.std.proofs.lemmas.Option.{slice_get_read}
use Rattle.aoe_base.proofs.CommonLemmas.{if-none}
use Rattle.aoe_flight.specs.FlightTable.{FlightTable}
use Rattle.aoe_initiator.specs.declared.device.Device.{Device}
use Rattle.aoe_initiator.specs.declared.pending.Pending.{Pending}
use Rattle.aoe_initiator.specs.Devices.{IsRoute}
use Rattle.aoe_initiator.specs.Host.{Host}
use Rattle.aoe_initiator.proofs.ListLemmas.{get-there}
use Rattle.aoe_initiator.proofs.SoundLemmas.{sound-sent}
use Rattle.aoe_initiator.proofs.StepLemmas.{launches-from}
use Rattle.aoe_initiator.proofs.initiator.Initiator.launch.Goals as goal

pub invariant_of-self : goal.invariant_of-self
invariant_of-self c =
    let time = ap (λ (t : FlightTable). t.latest) c.in_err-tag.ensures.unchanged in
    rw c.note_sent-route.ensures.value
    (sound-sent c.self.invariant _ c.args.ticket None c.note_sent-route.result.path c.launch.new.self (omega (arith, time)))

pub invariant_of-self-2 : goal.invariant_of-self-2
invariant_of-self-2 c =
    let time = ap (λ (t : FlightTable). t.latest) c.in_ok-tag.ensures.same in
    rw c.note_sent-route.ensures.value
    (sound-sent c.self.invariant _ c.args.ticket None c.note_sent-route.result.path c.launch.new.self (omega (arith, time)))

pub returns-clause-sent : goal.returns-clause-sent
returns-clause-sent c =
    let p : Pending = c.index-command.result.now in
    let P : Host → Type 0 = λ h. c.args.at < length h.pending in
    let inside : c.args.at < length c.self.inside.pending.items = subst P (sym c.self.view_is) c.requires in
    let attached : p.device.0 < length c.self.inside.devices.items = search rules in
    let d = get-there c.self.inside.devices.items p.device.0 attached in
    let R : Option Device → Type 0 = λ o. IfSome o (λ e. IsRoute e None c.note_sent-route.result) in
    let routed : IsRoute d.0 None c.note_sent-route.result = subst R d.1 c.note_sent-route.ensures.route in
    let there : slice_get c.self.inside.pending.items c.args.at ≡ Some p =
    slice_get_read c.self.inside.pending.items (length c.self.inside.pending.items) c.args.at p refl inside c.index-command.ensures in
    rw (← c.self.view_is)
    (launches-from _ c.args.ticket c.args.at c.in_ok-tag.tag c.write_request.new.out.items c.wait_after-wait.result
    c.launch.new.self c.note_sent-route.new.devices.items (record { there = there; held = d.1; routed = routed }) c.write_request.ensures.bytes
    c.note_sent-route.ensures.value c.in_ok-tag.ensures.same c.in_ok-tag.ensures.room c.wait_after-wait.ensures c.in_ok-tag.ensures.recalls)

pub returns-clause-tag : goal.returns-clause-tag
returns-clause-tag c = rw (← c.self.view_is) (ap (λ (t : FlightTable). t.last_tag) c.in_ok-tag.ensures.same, c.in_ok-tag.ensures.tag)

pub returns-in_err-tag-clause-no_tag : goal.returns-in_err-tag-clause-no_tag
returns-in_err-tag-clause-no_tag c =
    if-none c.from_residual.result _ (rw (← c.self.view_is) (ap (λ (t : FlightTable). t.last_tag) c.in_err-tag.ensures.unchanged))
