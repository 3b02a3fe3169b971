use Rattle.std.proofs.Common.{ap, is_err, refl}
use Rattle.aoe_mirror.proofs.sides.Sides.sync_follower.Goals as goal

pub returns-in-Err : goal.returns-in-Err
returns-in-Err g c =
    let bad = ap is_err c.in-Err.is in
    record { answer = c.sync.result; synced = g.D.Disk.state c.sync.new.self; sync = c.sync.ensures; is = rw (bad, c.set_all.ensures) refl; told = rw bad refl }

pub returns : goal.returns
returns g c =
    let ok = ap is_err c.in_default.is in
    record { answer = c.sync.result; synced = g.D.Disk.state c.sync.new.self; sync = c.sync.ensures; is = rw ok refl; told = rw ok refl }
