use Rattle.std.proofs.Common.{◌≡◌, ap, is_err, length, refl, arith}
use Rattle.aoe_mirror.specs.Sides.{pair_of}
use Rattle.aoe_mirror.proofs.Reading.{fallen_reads, lead_reads}
use Rattle.aoe_mirror.proofs.sides.Sides.read.Goals as goal

pub returns-in-Ok : goal.returns-in-Ok
returns-in-Ok g c =
    lead_reads c.args.at (length c.args.out.now) c.read.new.out (pair_of g.D.Disk.state c.args.self.now) c.requires.mirror _ c.read.result
    (g.D.Disk.state c.read.new.self) refl (ap is_err c.in-Ok.is) c.read.ensures

pub returns-in-Err : goal.returns-in-Err
returns-in-Err g c =
    let size : length c.read.new.out ≡ length c.args.out.now = omega arith in
    fallen_reads c.args.at (length c.args.out.now) c.read_follower.new.out
    (pair_of g.D.Disk.state c.args.self.now) c.requires.mirror c.requires.range c.read_follower.result c.read.result c.read.new.out
    (g.D.Disk.state c.read.new.self) (ap is_err c.in-Err.is) c.read.ensures (pair_of g.D.Disk.state c.read_follower.new.self)
    (rw size at c.read_follower.ensures)
