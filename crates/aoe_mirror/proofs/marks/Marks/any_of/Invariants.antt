use Rattle.std.proofs.Common.{◌-◌}
use Rattle.aoe_mirror.specs.Marks.{IsClear}
use Rattle.aoe_mirror.proofs.marks.Marks.any_of.Given as goal

abbrev pub invariant-any : goal.invariant-any
invariant-any l = IsClear l.self l.at (l.s - l.at)
