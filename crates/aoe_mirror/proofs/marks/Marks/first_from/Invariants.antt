use Rattle.std.proofs.Common.{◌-◌, ◌≤◌}
use Rattle.aoe_mirror.specs.Marks.{IsClear, bits_of}
use Rattle.aoe_mirror.proofs.marks.Marks.first_from.Given as goal

abbrev pub invariant-marks : goal.invariant-marks
invariant-marks l = (l.from ≤ l.s) × IsClear (bits_of l.self-inside.words.items l.self-inside.len) l.from (l.s - l.from)

abbrev pub decreases-marks : goal.decreases-marks
decreases-marks l = l.self-inside.len - l.s
