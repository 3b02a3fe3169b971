use Rattle.std.proofs.Common.{ap, is_err, inl, inr, refl, sym}
use Rattle.aoe_mirror.proofs.sides.Sides.write_copy.Goals as goal

pub returns-in-Err : goal.returns-in-Err
returns-in-Err g c = record {
  answer = c.write.result;
  written = g.D.Disk.state c.write.new.self;
  write = c.write.ensures;
  blamed = refl;
  rest = inl (ap is_err c.in-Err.is, refl, refl);
}

pub returns-in-Ok : goal.returns-in-Ok
returns-in-Ok g c = record {
  answer = c.write.result;
  written = g.D.Disk.state c.write.new.self;
  write = c.write.ensures;
  blamed = tt;
  rest = inr (ap is_err c.in_default.is, c.sync.result, sym (ap is_err c.in-Ok.is), c.sync.ensures, refl);
}

pub returns-in-Err-sync : goal.returns-in-Err-sync
returns-in-Err-sync g c = record {
  answer = c.write.result;
  written = g.D.Disk.state c.write.new.self;
  write = c.write.ensures;
  blamed = refl;
  rest = inr (ap is_err c.in_default.is, c.sync.result, sym (ap is_err c.in-Err-sync.is), c.sync.ensures, refl);
}
