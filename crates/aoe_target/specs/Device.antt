-- A device, and what is known of it.
use Rattle.std.specs.Prelude.{◌≡◌, ◌⊎◌, List, [], Option, IfSome, Contains}
use Rattle.std.specs.Option.{option_map}
use Rattle.aoe_disk.specs.State.{DiskState, BothTell}
use Rattle.aoe_keep.specs.Found.{Finds}
use Rattle.aoe_lists.specs.Settings.{Settings}
use Rattle.aoe_target.specs.Sectors.{Sectors, Agrees, sectors_of}

-- what is known of a device: its lists, those that a crash may leave in their place, and its sectors where they are told
pub record State : Type 0 where
  pub lists : Settings
  pub offers : List Settings
  pub sectors : Option Sectors

-- a device: its lists, the disk that keeps them, and its store
pub record Device : Type 0 where
  pub lists : Settings
  pub keep : DiskState
  pub store : DiskState

-- a crash may leave these lists
abbrev pub MayStand : State → Settings → Type 0
MayStand k lists = (lists ≡ k.lists) ⊎ Contains k.offers lists

-- what is known of the device is so: these are its lists; every crash leaves such lists as may stand, and its sectors are as they are known,
-- where the disks tell what they hold
pub record Holds (d : Device) (k : State) : Type 0 where
  pub lists : d.lists ≡ k.lists
  pub crash : IfSome d.keep.contents (Finds (MayStand k))
  pub sectors : BothTell Agrees (option_map sectors_of d.store.contents) k.sectors

-- of a device with these lists, which every crash leaves, and with its sectors as the store has them
abbrev pub state_of : Device → State
state_of d = record { lists = d.lists; offers = []; sectors = option_map sectors_of d.store.contents }
