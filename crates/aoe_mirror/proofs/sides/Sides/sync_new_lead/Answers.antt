use Rattle.std.proofs.Common.{ap, is_err, refl, sym}
use Rattle.aoe_mirror.proofs.sides.Sides.sync_new_lead.Goals as goal

pub returns-in-Ok : goal.returns-in-Ok
returns-in-Ok g c = record {
  answer = c.sync.result;
  synced = g.D.Disk.state c.sync.new.self;
  sync = c.sync.ensures;
  is = rw c.set_all.ensures refl;
  told = sym (ap is_err c.in-Ok.is);
  blamed = tt;
}

pub returns-in-Err : goal.returns-in-Err
returns-in-Err g c = record {
  answer = c.sync.result;
  synced = g.D.Disk.state c.sync.new.self;
  sync = c.sync.ensures;
  is = rw c.set_all.ensures refl;
  told = sym (ap is_err c.in-Err.is);
  blamed = refl;
}
