use Rattle.std.proofs.Common.{◌≡◌}
use Rattle.slab.specs.Slab.{slab_len, values}
use Rattle.aoe_flight.specs.Outstanding.{live}
use Rattle.aoe_flight.proofs.table.Table.forget.Given as goal

-- those that were dropped rested out
abbrev pub invariant-over : goal.invariant-over
invariant-over l = (live l.rest.0 l.now.0 (values l.self) ≡ live l.rest.0 l.now.0 (values l.fn.self)) × (l.self.capacity ≡ l.fn.self.capacity)

abbrev pub decreases-over : goal.decreases-over
decreases-over l = slab_len l.self
