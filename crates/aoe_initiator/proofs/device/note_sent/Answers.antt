use Rattle.std.proofs.Common.{◌≡◌, Some, length, refl, ◌∙◌}
use Rattle.std.specs.Prelude.{slice_get}
use Rattle.std.proofs.lemmas.Option.{slice_get_read}
use Rattle.aoe_initiator.specs.declared.device.Device.{Device}
use Rattle.aoe_initiator.specs.Devices.{device_sent}
use Rattle.aoe_initiator.proofs.DeviceLemmas.{set-change_at}
use Rattle.aoe_initiator.proofs.device.note_sent.Goals as goal

pub returns-clause-route : goal.returns-clause-route
returns-clause-route c =
    let d : Device = c.index_mut-device.result.now in
    let there : slice_get c.args.devices.now.items c.args.device.0 ≡ Some d =
    slice_get_read c.args.devices.now.items (length c.args.devices.now.items) c.args.device.0 d refl c.requires.inside c.index_mut-device.ensures.value in
    let r = c.route.ensures.route in
    rw there (record { next = r.next; inside = r.inside; target = r.target; flush = r.flush; pair = r.pair; timeout = r.timeout })

pub returns-clause-value : goal.returns-clause-value
returns-clause-value c =
    let d : Device = c.index_mut-device.result.now in
    let change : Device → Device = device_sent c.args.ticket c.args.now c.args.missed c.route.result.path in
    let changed : c.route.new.self ≡ change d = c.route.ensures.chosen ∙ rw c.sent.ensures.value refl in
    rw changed (set-change_at c.args.devices.now.items c.args.device.0 d change c.requires.inside c.index_mut-device.ensures.value)
