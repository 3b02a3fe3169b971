use Rattle.std.proofs.Common.{ap, is_err, inl, inr, refl, arith}
use Rattle.aoe_mirror.proofs.sides.Sides.fall_over.Goals as goal

pub returns-in-Err-clause-falls : goal.returns-in-Err-clause-falls
returns-in-Err-clause-falls g c = inl (record { failed = refl; is = rw c.put_each.ensures refl; follower = inr (c.write.result, ap is_err c.in-Err.is, c.write.ensures) })

pub returns-clause-falls : goal.returns-clause-falls
returns-clause-falls g c = inr (record {
  whole = omega (arith, c.count-stale.ensures.count);
  written = g.D.Disk.state c.write.new.self;
  answer = c.write.result;
  done = ap is_err c.in_default.is;
  write = c.write.ensures;
  settles = rw c.put_each.ensures at (rw c.change_lead.ensures at c.settle.ensures.settles);
})
