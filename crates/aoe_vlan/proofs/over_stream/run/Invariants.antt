use Rattle.std.proofs.Common.{◌≡◌, ◌≤◌, ◌*◌, List}
use Rattle.aoe_vlan.specs.Switched.{Passing}
use Rattle.aoe_vlan.specs.Tables.{HasLearnt}
use Rattle.aoe_vlan.proofs.RunLemmas.{SoFar}
use Rattle.aoe_vlan.proofs.over_stream.run.Given as goal

abbrev pub invariant-frames : goal.invariant-frames
invariant-frames g l = record {
  so_far : (before : List Passing) → HasLearnt l.initial.switch before
      → SoFar l.initial.switch l.switch before (g.S.Source.left l.initial.source) (g.S.Source.left l.source) (g.K.Sink.held l.initial.sink)
      (g.K.Sink.held l.sink) l.offset l.count;
  ports : l.switch.ports ≡ l.initial.switch.ports;
  source : g.S.Source.faults l.source ≡ g.S.Source.faults l.initial.source;
  sink : g.K.Sink.faults l.sink ≡ g.K.Sink.faults l.initial.sink;
  fits : l.offset ≤ 9025 * l.count;
}
