use Rattle.std.proofs.Common.{refl}
use Rattle.aoe_mirror.proofs.sides.Sides.follow.Goals as goal

pub returns : goal.returns
returns g c = record {
  answer = c.write.result;
  written = g.D.Disk.state c.write.new.self;
  write = c.write.ensures;
  is = rw (c.put_each.ensures, c.is_err-failed.ensures.value) refl;
}
