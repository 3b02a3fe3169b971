use Rattle.std.proofs.Common.{◌<◌, ◌≤◌, length}
use Rattle.aoe_host_tests.proofs.initiator.fill.Given as goal

abbrev pub invariant-held : goal.invariant-held
invariant-held l = record { few : l.host.last_ticket ≤ l.i; attached : l.device.0 < length l.host.devices }
