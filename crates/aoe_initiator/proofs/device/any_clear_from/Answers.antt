use Rattle.std.proofs.Common.{arith, rules}
use Rattle.aoe_initiator.proofs.DeviceLemmas.{clear-more-from, clear-none, clear-whole}
use Rattle.aoe_initiator.proofs.device.any_clear_from.Goals as goal

pub devices-init : goal.devices-init
devices-init c = clear-none c.args.devices.now

pub devices-preserved : goal.devices-preserved
devices-preserved c =
    clear-more-from c.args.devices.now c.devices.device-index c.device-item.result c.devices.from c.clear_from.result c.min-from.result
    c.devices-test.true (search rules) c.devices.invariant c.clear_from.ensures.time (search rules)

pub returns : goal.returns
returns c = clear-whole c.args.devices.now c.devices.device-index c.devices.from (omega (arith, c.devices-test.false)) c.devices.invariant
