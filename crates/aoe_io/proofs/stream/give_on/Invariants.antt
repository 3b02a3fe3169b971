use Rattle.std.proofs.Common.{◌≡◌, ◌≤◌, length, ◌-◌, take}
use Rattle.aoe_io.specs.Bytes.{Took}
use Rattle.aoe_io.proofs.stream.give_on.Given as goal

abbrev pub invariant-pieces : goal.invariant-pieces
invariant-pieces g l = (l.done ≤ length l.bytes) × (g.K.Sink.faults l.sink ≡ g.K.Sink.faults l.initial.sink)
    × Took (g.K.Sink.held l.initial.sink) (g.K.Sink.held l.sink) (take l.done l.bytes)

abbrev pub decreases-pieces : goal.decreases-pieces
decreases-pieces g l = length l.bytes - l.done
