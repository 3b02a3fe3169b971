use Rattle.std.proofs.Common.{◌≡◌, ap, is_err, inl, inr, length, refl, arith}
use Rattle.aoe_mirror.proofs.sides.Sides.copy_run.Goals as goal

pub returns-in-Ok : goal.returns-in-Ok
returns-in-Ok g c =
    let size : length c.read.new.out ≡ length c.args.piece.now = omega arith in
    record {
      answer = c.read.result;
      piece = c.read.new.out;
      looked = g.D.Disk.state c.read.new.self;
      read = c.read.ensures;
      size = size;
      rest = inr (ap is_err c.in-Ok.is, c.write_copy.ensures);
    }

pub returns-in-Err : goal.returns-in-Err
returns-in-Err g c =
    let size : length c.read.new.out ≡ length c.args.piece.now = omega arith in
    record {
      answer = c.read.result;
      piece = c.read.new.out;
      looked = g.D.Disk.state c.read.new.self;
      read = c.read.ensures;
      size = size;
      rest = inl (ap is_err c.in-Err.is, refl, refl, refl);
    }
