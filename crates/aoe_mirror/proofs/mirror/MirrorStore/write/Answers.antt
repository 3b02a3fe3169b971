use Rattle.aoe_mirror.specs.Sides.{pair_of}
use Rattle.aoe_mirror.proofs.Writing.{unsettled_err}
use Rattle.aoe_mirror.proofs.mirror.MirrorStore.write.Goals as goal

pub returns-in-Err-clause-stores : goal.returns-in-Err-clause-stores
returns-in-Err-clause-stores g c =
    rw (← c.self.view_is) ((unsettled_err c.args.at c.args.piece.now _ (pair_of g.D.Disk.state c.self.inside.sides)
    (pair_of g.D.Disk.state c.say.new.self) c.self.invariant.mirror c.in-Err.ensures.settles).stores)

pub returns-in-Err-clause-mirror : goal.returns-in-Err-clause-mirror
returns-in-Err-clause-mirror g c =
    rw (← c.self.view_is) (unsettled_err c.args.at c.args.piece.now _ (pair_of g.D.Disk.state c.self.inside.sides)
    (pair_of g.D.Disk.state c.say.new.self) c.self.invariant.mirror c.in-Err.ensures.settles)
