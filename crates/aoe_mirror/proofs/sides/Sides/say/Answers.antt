use Rattle.std.proofs.Common.{is_err}
use Rattle.aoe_mirror.specs.Sides.{pair_of}
use Rattle.aoe_mirror.proofs.Cleaning.{said_settles}
use Rattle.aoe_mirror.proofs.sides.Sides.say.Goals as goal

pub returns-clause-settles : goal.returns-clause-settles
returns-clause-settles g c =
    said_settles (is_err c.write_clean.result) (pair_of g.D.Disk.state c.args.self.now) (g.D.Disk.state c.write_clean.new.disk) c.requires.mark
    c.requires.settled c.write_clean.ensures.run c.write_clean.ensures.name
