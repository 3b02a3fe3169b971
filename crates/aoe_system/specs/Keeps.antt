-- Which files and which devices are taken for a keep.
use Rattle.std.specs.Prelude.{◌==◌, ◌&&◌, ℕ, Bool, not, Option, None, Some, List, if◌then◌else◌}
use Rattle.std.specs.List.{list_all}
use Rattle.aoe_keep.specs.Content.{may_hold_keep}
use Rattle.aoe_system.specs.declared.files.KeepDoubt.{KeepDoubt}
use Rattle.aoe_system.specs.declared.files.KeepDoubt.TheVariants as doubt

abbrev pub are_zeros : List ℕ → Bool
are_zeros bytes = list_all (λ b. b == 0) bytes

-- a file that isn't of a keep's size, or holds something else than a keep, new or not: a new one is zeros
abbrev pub file_doubt : ℕ → List ℕ → Option KeepDoubt
file_doubt len image =
    if not (len == 8192) then Some doubt.Size
    else if may_hold_keep image then None
    else Some doubt.Content

-- a device that holds no keep: other data may stand behind zeros
abbrev pub device_doubt : List ℕ → Option KeepDoubt
device_doubt image = if may_hold_keep image && not (are_zeros image) then None else Some doubt.Device
