use Rattle.std.proofs.Common.{◌-◌, length}
use Rattle.slab.specs.Slab.{values}
use Rattle.aoe_flight.proofs.TagLemmas.{Passes}
use Rattle.aoe_flight.proofs.table.Table.next_tag.Given as goal

-- each tag that was passed is the tag of another command
abbrev pub invariant-passed : goal.invariant-passed
invariant-passed l = Passes (values l.self) l.last l.steps l.tag

abbrev pub decreases-passed : goal.decreases-passed
decreases-passed l = length (values l.self) - l.steps
