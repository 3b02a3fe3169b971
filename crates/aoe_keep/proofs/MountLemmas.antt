-- What is known of the disk of a keep that was mounted.
use Rattle.std.proofs.Common.{◌≡◌, ◌≤◌, ℕ, Option, Some, None, IfSome, Result, arith}
use Rattle.aoe_lists.specs.Settings.{Settings}
use Rattle.aoe_disk.specs.State.{Contents, DiskState, BothTell}
use Rattle.aoe_disk.specs.Calls.{Settles}
use Rattle.aoe_keep.specs.Found.{found}
use Rattle.aoe_keep.specs.Keep.{Mounts}

-- what stands in its slots, where syncing it told that
pub told-found : (r : Result Settings ℕ) (a b : Option Contents) → BothTell (λ x y. (found x.bytes ≡ r) × Settles x y) a b → IfSome a (λ c. found c.bytes ≡ r)
told-found r None b told = tt
told-found r (Some x) None told = absurd told
told-found r (Some x) (Some y) told = told.0

-- its size
pub room-for-slots : (before after : DiskState) (lists : Settings) → Mounts before after lists → 16 ≤ before.sectors
room-for-slots before after lists m = omega (arith, m.room, m.run.run.sectors)
