-- A shelf of targets, as contracts see it.
use Rattle.std.specs.Prelude.{ℕ, ◌==◌, ◌<◌, ◌≤◌, Bool, Option, Some, None, List, length, if◌then◌else◌}
use Rattle.std.specs.List.{list_any}
use Rattle.aoe_base.specs.declared.address.Mac.{Mac}
use Rattle.aoe_target.specs.Mounted.{Mounted}
use Rattle.aoe_shelf.specs.declared.refusal.ShelfRefusal.{ShelfRefusal}
use Rattle.aoe_shelf.specs.declared.refusal.ShelfRefusal.TheVariants.{Full, Repeated}

-- its number (AoEr11, "Major"), its ports, how many bytes a frame carries, and its targets in the order of adding
pub record ShelfTable (S D : Type 0) : Type 0 where
  pub major : ℕ
  pub ports : List Mac
  pub mtu : ℕ
  pub targets : List (Mounted S D)

-- a target of the shelf has this minor
abbrev pub has_minor : {S D : Type 0} → List (Mounted S D) → ℕ → Bool
has_minor targets minor = list_any (λ t. t.station.id.minor == minor) targets

-- why a target with this minor isn't added, where it isn't
abbrev pub refusal_of : {S D : Type 0} → List (Mounted S D) → ℕ → Option ShelfRefusal
refusal_of targets minor =
    if length targets == 16 then Some Full
    else if has_minor targets minor then Some Repeated
    else None

-- what holds of the fields of a shelf
pub record IsShelf (major : ℕ) (ports : List Mac) (mtu count room : ℕ) : Type 0 where
  pub shelf : major < 65535
  pub port : 1 ≤ length ports
  pub shortest : 1500 ≤ mtu
  pub longest : mtu ≤ 9000
  pub bound : count ≤ 16
  pub reserved : 16 ≤ room
