use Rattle.std.proofs.Common.{◌≡◌, ◌*◌, ap, is_err, length, take, arith}
use Rattle.std.proofs.lemmas.List.{length-take-le}
use Rattle.aoe_mirror.specs.Sides.{pair_of}
use Rattle.aoe_mirror.proofs.Copying.{copy_blames, done_copies, failed_copies}
use Rattle.aoe_mirror.proofs.Lowest.{copied_lowest}
use Rattle.aoe_mirror.proofs.sides.Sides.resync_run.Goals as goal

pub returns-in-Err-clause-copies : goal.returns-in-Err-clause-copies
returns-in-Err-clause-copies g c =
    let size : length (take (512 * c.args.n) c.args.scratch.now) ≡ 512 * c.args.n =
    length-take-le (512 * c.args.n) c.args.scratch.now (omega (arith, c.requires.run.most, c.requires.scratch)) in
    failed_copies (pair_of g.D.Disk.state c.args.self.now) c.requires.mirror c.args.at c.args.n c.requires.run c.copy_run.result
    (pair_of g.D.Disk.state c.copy_run.new.self) (rw size at c.copy_run.ensures) (ap is_err c.in-Err.is)

pub returns-in-Err-clause-blames : goal.returns-in-Err-clause-blames
returns-in-Err-clause-blames g c =
    let size : length (take (512 * c.args.n) c.args.scratch.now) ≡ 512 * c.args.n =
    length-take-le (512 * c.args.n) c.args.scratch.now (omega (arith, c.requires.run.most, c.requires.scratch)) in
    rw c.in-Err.is at (copy_blames (pair_of g.D.Disk.state c.args.self.now) c.requires.mirror c.args.at c.args.n c.requires.run c.copy_run.result
    (pair_of g.D.Disk.state c.copy_run.new.self) (rw size at c.copy_run.ensures))

pub returns-clause-copies : goal.returns-clause-copies
returns-clause-copies g c =
    let size : length (take (512 * c.args.n) c.args.scratch.now) ≡ 512 * c.args.n =
    length-take-le (512 * c.args.n) c.args.scratch.now (omega (arith, c.requires.run.most, c.requires.scratch)) in
    rw c.put_each.ensures (done_copies
    (pair_of g.D.Disk.state c.args.self.now) c.requires.mirror c.args.at c.args.n c.requires.run c.copy_run.result
    (pair_of g.D.Disk.state c.copy_run.new.self) (rw size at c.copy_run.ensures) (ap is_err c.in_default.is))

pub returns-in-Err-clause-lowest : goal.returns-in-Err-clause-lowest
returns-in-Err-clause-lowest g c = rw c.in-Err.is at (copied_lowest (pair_of g.D.Disk.state c.args.self.now) c.requires.mirror c.args.at _
    (pair_of g.D.Disk.state c.copy_run.new.self) c.copy_run.result c.copy_run.ensures)

pub returns-clause-lowest : goal.returns-clause-lowest
returns-clause-lowest g c = rw c.in_default.is at (copied_lowest (pair_of g.D.Disk.state c.args.self.now) c.requires.mirror c.args.at _
    (pair_of g.D.Disk.state c.copy_run.new.self) c.copy_run.result c.copy_run.ensures)
