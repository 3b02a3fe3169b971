use Rattle.std.proofs.Common.{◌≡◌, ◌≤◌, length, ◌-◌, take}
use Rattle.aoe_io.specs.Bytes.{Gave}
use Rattle.aoe_io.proofs.stream.fill_on.Given as goal

abbrev pub invariant-pieces : goal.invariant-pieces
invariant-pieces g l = (l.done ≤ length l.out) × (g.S.Source.faults l.source ≡ g.S.Source.faults l.initial.source)
    × Gave (g.S.Source.left l.initial.source) (g.S.Source.left l.source) (take l.done l.out)

abbrev pub decreases-pieces : goal.decreases-pieces
decreases-pieces g l = length l.out - l.done
