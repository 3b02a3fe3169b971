use Rattle.std.proofs.Common.{ap, is_err}
use Rattle.aoe_mirror.proofs.Cleaning.{sees_one}
use Rattle.aoe_mirror.proofs.mirror.read_one.Goals as goal

pub returns-in-Ok-clause-sees : goal.returns-in-Ok-clause-sees
returns-in-Ok-clause-sees g c =
    sees_one (g.D.Disk.state c.args.disk.now) (g.D.Disk.state c.read.new.self) c.read.result c.read.new.out c.found_in.result c.found_in.ensures.side
    (ap is_err c.in-Ok.is) c.requires.disk c.requires.one c.read.ensures c.found_in.ensures.found
