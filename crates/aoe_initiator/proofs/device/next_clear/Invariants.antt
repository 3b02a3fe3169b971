use Rattle.std.proofs.Common.{◌≡◌, ◌++◌, ℕ, List, map, take, drop}
use Rattle.aoe_initiator.specs.Devices.{all_clear, device_at, IsLowest}
use Rattle.aoe_initiator.specs.Host.{RecallAll}
use Rattle.aoe_initiator.specs.HostLog.{HostCommand}
use Rattle.aoe_initiator.proofs.device.next_clear.Given as goal

abbrev pub invariant-devices : goal.invariant-devices
invariant-devices l = record {
  devices : l.device-items ≡ map (device_at l.now.0) (take l.device-index l.initial.device-items) ++ drop l.device-index l.initial.device-items;
  lowest : (life : ℕ) (cs : List HostCommand) → RecallAll life cs 0 l.initial.device-items
      → IsLowest (all_clear life l.now.0 cs 0 (take l.device-index l.initial.device-items)) l.lowest;
}
