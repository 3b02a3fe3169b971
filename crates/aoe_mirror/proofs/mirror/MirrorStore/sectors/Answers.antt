use Rattle.aoe_mirror.specs.Sides.{pair_of}
use Rattle.aoe_mirror.proofs.Steps.{shown_disk}
use Rattle.aoe_mirror.proofs.mirror.MirrorStore.sectors.Goals as goal

pub returns-clause-disk : goal.returns-clause-disk
returns-clause-disk g c = rw (← c.self.view_is) (shown_disk (pair_of g.D.Disk.state c.self.inside.sides) c.self.invariant.mirror)
