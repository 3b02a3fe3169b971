-- Files that are named: which part of one is read, and what in one is left out.
use Rattle.std.specs.Prelude.{ℕ, ◌+◌, ◌-◌, ◌*◌, ◌==◌, Bool, List, Option, Some, None, nat_le, if◌then◌else◌}
use Rattle.std.specs.List.{list_all}
use Rattle.aoe_system.specs.declared.part.Part.{Part}

-- of a file of so many bytes, `count` sectors behind the first `skip`, or without a count all that comes behind
-- them; none where it has fewer
abbrev pub part_of : ℕ → ℕ → Option ℕ → Option Part
part_of bytes skip (Some count) = if nat_le (512 * (skip + count)) bytes then Some (record { at = 512 * skip; bytes = 512 * count }) else None
part_of bytes skip None = if nat_le (512 * skip) bytes then Some (record { at = 512 * skip; bytes = bytes - 512 * skip }) else None

-- whether all bytes are zeros
abbrev pub are_zeros : List ℕ → Bool
are_zeros bytes = list_all (λ b. b == 0) bytes
