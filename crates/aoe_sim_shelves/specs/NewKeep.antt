-- The keep that a slot begins with.
use Rattle.std.specs.Prelude.{◌≡◌, Bool, length, Some, None, if◌then◌else◌}
use Rattle.std.specs.Option.{option_map}
use Rattle.aoe_disk.specs.Arming.{number_of}
use Rattle.aoe_disk.specs.Memory.{state_of, Memory}
use Rattle.aoe_keep.specs.Found.{AlwaysFinds}
use Rattle.aoe_keep.specs.Keep.{Kept}
use Rattle.aoe_lists.specs.Settings.{empty_settings}

-- every crash finds empty lists, with the read-only mark or without it. A mark stands in slot 0 with turn 0, in format 2; without one
-- no slot holds lists. No call of the disk is to fail
pub record IsNewKeep (read_only : Bool) (keep : Kept Memory) : Type 0 where
  pub lists : keep.lists ≡ record empty_settings { read_only = read_only }
  pub finds : AlwaysFinds (state_of keep.disk) keep.lists
  pub sectors : length keep.disk.loose ≡ 16
  pub unarmed : option_map number_of keep.disk.arming ≡ None
  pub place : keep.place ≡ (if read_only then Some record { slot = 0; turn = 0; format = 2 } else None)
