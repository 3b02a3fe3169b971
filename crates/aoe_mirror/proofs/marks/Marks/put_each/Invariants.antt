use Rattle.std.proofs.Common.{◌-◌, ◌≡◌}
use Rattle.aoe_mirror.specs.Marks.{with_each}
use Rattle.aoe_mirror.proofs.marks.Marks.put_each.Given as goal

abbrev pub invariant-each : goal.invariant-each
invariant-each l = l.self ≡ with_each l.initial.self l.at (l.s - l.at) l.value
