use Rattle.std.proofs.Common.{◌≡◌, ◌<◌, List, length, get_or, refl, arith}
use Rattle.aoe_initiator.specs.declared.device.Device.{Device}
use Rattle.aoe_initiator.specs.Devices.{device_at}
use Rattle.aoe_initiator.proofs.DeviceLemmas.{items-after, item-before, lowest-after, lowest-of}
use Rattle.aoe_initiator.proofs.device.next_clear.Goals as goal

pub devices-preserved : goal.devices-preserved
devices-preserved c =
    let xs : List Device = c.deref_mut-device-items.result.now in
    let items : List Device = c.devices.device-items in
    let item : Device = get_or items c.devices.device-index c.device-item.result in
    let is : item ≡ get_or items c.devices.device-index item = rw (← c.device-item.is) c.device-item.is in
    let inside : c.devices.device-index < length xs = omega (arith, c.devices-test.true, c.devices.auto.device-items) in
    let read = item-before (device_at c.args.now.0) xs items c.devices.device-index item c.devices.invariant.devices is inside in
    let new : Device = record { about = item.about; holds = c.first_clear.new.holds; paths = item.paths } in
    let changed : new ≡ device_at c.args.now.0 item = rw c.first_clear.ensures.same refl in
    record {
      devices = items-after (device_at c.args.now.0) xs items c.devices.device-index item new c.devices.invariant.devices is inside changed;
      lowest = lowest-after xs c.devices.device-index c.args.now.0 item c.devices.lowest c.first_clear.result c.lower-lowest.result inside read
          c.devices.invariant.lowest
          (lowest-of item.holds c.args.now.0 c.first_clear.result c.first_clear.ensures.clear c.first_clear.ensures.lowest c.first_clear.ensures.none)
          c.lower-lowest.ensures;
    }
