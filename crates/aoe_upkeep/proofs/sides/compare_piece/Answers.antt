use Rattle.std.proofs.Common.{length}
use Rattle.aoe_upkeep.proofs.SideLemmas.{passed, unpassed}
use Rattle.aoe_upkeep.proofs.sides.compare_piece.Goals as goal

pub returns-in-Ok-pass-clause-passes : goal.returns-in-Ok-pass-clause-passes
returns-in-Ok-pass-clause-passes g c =
    passed c.args.scan.now (length c.args.first.now) c.read.new.out c.read-2.new.out c.in-Ok.field-0 c.in-Ok-read.field-0 (g.D.Disk.state c.args.one.now)
    (g.D.Disk.state c.read.new.self) (g.D.Disk.state c.args.two.now) (g.D.Disk.state c.read-2.new.self) (g.K.Sink.held c.args.sink.now)
    (g.K.Sink.held c.pass.new.sink) c.requires.range.whole c.read.auto.out c.in-Ok.ensures (rw c.requires.long at c.in-Ok-read.ensures) c.pass.new.self
    c.in-Ok-pass.ensures.goes

pub returns-in-Err-pass-clause-passes : goal.returns-in-Err-pass-clause-passes
returns-in-Err-pass-clause-passes g c =
    unpassed c.args.scan.now (length c.args.first.now) c.read.new.out c.read-2.new.out c.in-Ok.field-0 c.in-Ok-read.field-0 (g.D.Disk.state c.args.one.now)
    (g.D.Disk.state c.read.new.self) (g.D.Disk.state c.args.two.now) (g.D.Disk.state c.read-2.new.self) (g.K.Sink.held c.args.sink.now)
    (g.K.Sink.held c.pass.new.sink) c.requires.range.whole c.read.auto.out c.in-Ok.ensures (rw c.requires.long at c.in-Ok-read.ensures) c.in-Err-pass.field-0
    c.pass.new.self c.in-Err-pass.ensures.goes
