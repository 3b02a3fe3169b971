use Rattle.aoe_flight.proofs.ValueLemmas.{any-over, none-over}
use Rattle.aoe_flight.proofs.table.Table.is_any_over.Goals as goal

pub returns-clause-some : goal.returns-clause-some
returns-clause-some g c = any-over c.args.rest.0 c.args.now.0 c.args.self.now c.over_slot.result c.is_some.result c.is_some.ensures c.over_slot.ensures.some

pub returns-clause-none : goal.returns-clause-none
returns-clause-none g c = none-over c.args.rest.0 c.args.now.0 c.args.self.now c.over_slot.result c.is_some.result c.is_some.ensures c.over_slot.ensures.none
