use Rattle.std.proofs.Common.{◌≡◌}
use Rattle.aoe_serve.specs.Slots.{slots_of}
use Rattle.aoe_serve.proofs.RunLemmas.{SoFar}
use Rattle.aoe_serve.proofs.over_stream.answer_as.Given as goal

abbrev pub invariant-frames : goal.invariant-frames
invariant-frames g l = SoFar l.format (g.R.Source.left l.initial.source) (g.R.Source.left l.source) (g.K.Sink.held l.fn.sink) (g.K.Sink.held l.sink)
    (slots_of g.S.Store.lasts g.S.Store.state g.D.Disk.state l.initial.shelf.targets)
    (slots_of g.S.Store.lasts g.S.Store.state g.D.Disk.state l.shelf.targets) l.offset l.count
    × (l.shelf ≡ record l.initial.shelf { targets = l.shelf.targets })
    × (g.R.Source.faults l.source ≡ g.R.Source.faults l.initial.source)
    × (g.K.Sink.faults l.sink ≡ g.K.Sink.faults l.fn.sink)
