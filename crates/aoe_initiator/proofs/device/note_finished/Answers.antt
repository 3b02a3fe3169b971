use Rattle.aoe_initiator.specs.Devices.{device_finished}
use Rattle.aoe_initiator.proofs.DeviceLemmas.{set-change_at}
use Rattle.aoe_initiator.proofs.device.note_finished.Goals as goal

pub returns : goal.returns
returns c =
    rw (c.finished.ensures.value, c.note_arrival.ensures)
    (set-change_at c.args.devices.now.items c.args.device.0 c.index_mut-device.result.now
    (device_finished c.args.ticket c.args.came) c.requires c.index_mut-device.ensures.value)
