-- What a store that writes later tells of its disk, and what calls of the store do to it.
use Rattle.std.specs.Prelude.{◌≡◌, ◌≤◌, ◌+◌, ℕ, Bool, false, Option, Some, IfSome, List}
use Rattle.std.specs.Option.{option_map}
use Rattle.aoe_disk.specs.Arming.{ArmsTo}
use Rattle.aoe_disk.specs.Calls.{IsRun}
use Rattle.aoe_disk.specs.State.{Contents, DiskState}
use Rattle.aoe_disk.specs.declared.armed.Arm.{Arm}

-- the disk, without what the store holds back; how many more sectors can be written before the disk is, where that is known; and
-- how many that is at most
pub record Under : Type 0 where
  pub disk : DiskState
  pub free : Option ℕ
  pub room : ℕ

abbrev pub bytes_under : Under → Option (List ℕ)
bytes_under u = option_map (λ (c : Contents). c.bytes) u.disk.contents

-- a call of the store makes any number of device calls, and fails where one of them does
pub record CallsUnder (failed : Bool) (old new : Under) : Type 0 where
  pub room : new.room ≡ old.room
  pub made : ℕ
  pub run : IsRun made failed old.disk new.disk

-- a read
pub record ReadsUnder (failed : Bool) (old new : Under) : Type 0 where
  pub calls : CallsUnder failed old new
  pub same : new.disk.contents ≡ old.disk.contents
  pub free : new.free ≡ old.free

-- a write of n sectors, where there was room for k
pub record StaysUnder (n k : ℕ) (old new : Under) : Type 0 where
  pub bytes : bytes_under new ≡ bytes_under old
  pub left : ℕ
  pub free : new.free ≡ Some left
  pub fewer : k ≤ left + n

-- a write of n sectors
pub record SpendsUnder (n : ℕ) (failed : Bool) (old new : Under) : Type 0 where
  pub calls : CallsUnder failed old new
  pub within : (k : ℕ) → old.free ≡ Some k → n ≤ k → StaysUnder n k old new

-- a sync, which brings to the disk what the store showed
pub record FreesUnder (failed : Bool) (shown : Option Contents) (old new : Under) : Type 0 where
  pub calls : CallsUnder failed old new
  pub done : failed ≡ false → IfSome shown (λ c. (bytes_under new ≡ Some c.bytes) × (new.free ≡ Some new.room))

-- arming
pub record ArmsUnder (arm : Arm) (old new : Under) : Type 0 where
  pub room : new.room ≡ old.room
  pub free : new.free ≡ old.free
  pub arms : ArmsTo arm old.disk new.disk
