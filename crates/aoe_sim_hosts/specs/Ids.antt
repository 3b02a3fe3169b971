-- The names of a host's devices.
use Rattle.std.specs.Prelude.{◌≡◌, ◌<◌, ◌^◌, List, length, map}
use Rattle.aoe_base.specs.declared.address.TargetId.{TargetId}
use Rattle.aoe_initiator.specs.declared.device.Device.{Device}

-- the names of the devices, in the order of attachment, where each has a number of four bytes
pub record AreIds (ids : List TargetId) (devices : List Device) : Type 0 where
  pub are : ids ≡ map (λ (d : Device). d.about.id) devices
  pub few : length devices < 2 ^ 32
