use Rattle.std.proofs.Common.{take}
use Rattle.aoe_initiator.proofs.DeviceLemmas.{ClearFrom}
use Rattle.aoe_initiator.proofs.device.any_clear_from.Given as goal

-- from that time on one of the devices so far has a clear command
abbrev pub invariant-devices : goal.invariant-devices
invariant-devices l = ClearFrom l.devices (take l.device-index l.devices) l.from
