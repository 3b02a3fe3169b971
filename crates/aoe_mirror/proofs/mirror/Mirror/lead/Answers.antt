use Rattle.aoe_mirror.specs.Sides.{pair_of}
use Rattle.aoe_mirror.proofs.Cleaning.{crashes_truly}
use Rattle.aoe_mirror.proofs.Surviving.{survives}
use Rattle.aoe_mirror.proofs.mirror.Mirror.lead.Goals as goal

pub returns-clause-crash : goal.returns-clause-crash
returns-clause-crash g c = rw (← c.self.view_is) (survives (pair_of g.D.Disk.state c.self.inside.sides) c.self.invariant.mirror)

pub returns-clause-clean : goal.returns-clause-clean
returns-clause-clean g c =
    rw (← c.self.view_is) (crashes_truly c.self.inside.clean (pair_of g.D.Disk.state c.self.inside.sides) c.self.invariant.marked)

pub returns-clause-one : goal.returns-clause-one
returns-clause-one g c = c.self.invariant.mirror.mark.side
