use Rattle.std.proofs.Common.{◌≡◌, take}
use Rattle.aoe_io.specs.Bytes.{Took}
use Rattle.aoe_vlan.proofs.PieceLemmas.{each-at}
use Rattle.aoe_vlan.proofs.over_stream.give_each.Given as goal

abbrev pub invariant-ports : goal.invariant-ports
invariant-ports g l = Took (g.K.Sink.held l.initial.sink) (g.K.Sink.held l.sink) (each-at l.switch.ports l.vid l.frame (take l.q-index l.ports))
    × (g.K.Sink.faults l.sink ≡ g.K.Sink.faults l.initial.sink)
