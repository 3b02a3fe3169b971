use Rattle.aoe_mirror.specs.Sides.{pair_of}
use Rattle.aoe_mirror.proofs.Writing.{settled_writes, unsettled_err}
use Rattle.aoe_mirror.proofs.sides.Sides.write.Goals as goal

pub returns-in-Err-clause-writes : goal.returns-in-Err-clause-writes
returns-in-Err-clause-writes g c =
    unsettled_err c.args.at c.args.piece.now _ (pair_of g.D.Disk.state c.args.self.now)
    (pair_of g.D.Disk.state c.settle.new.self) c.requires.mirror c.in-Err.ensures.settles

pub returns-in-Ok-clause-writes : goal.returns-in-Ok-clause-writes
returns-in-Ok-clause-writes g c =
    settled_writes c.args.at c.args.piece.now c.write_both.result (pair_of g.D.Disk.state c.args.self.now) (pair_of g.D.Disk.state c.settle.new.self)
    (pair_of g.D.Disk.state c.write_both.new.self) c.requires.mirror c.in-Ok.ensures.settles c.write_both.ensures.writes
