use Rattle.aoe_keep.proofs.Reading.{faults}
use Rattle.aoe_keep.proofs.body.unreadable_bodies.Goals as goal

pub returns : goal.returns
returns c = faults
