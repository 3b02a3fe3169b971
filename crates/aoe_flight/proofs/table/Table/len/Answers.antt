use Rattle.std.proofs.Common.{◌∙◌, ap, length}
use Rattle.slab.specs.Slab.{values, Slab}
use Rattle.aoe_flight.specs.declared.outstanding.Outstanding.{Outstanding}
use Rattle.aoe_flight.proofs.SlotLemmas.{length-held}
use Rattle.aoe_flight.proofs.table.Table.len.Goals as goal

pub returns : goal.returns
returns c = c.len.ensures ∙ length-held c.self.inside.slots.slots ∙ ap (λ (s : Slab Outstanding). length (values s)) c.self.view_is
