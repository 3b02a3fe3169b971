use Rattle.aoe_flight.proofs.TableLemmas.{taken-is}
use Rattle.aoe_flight.proofs.table.Table.is_taken.Goals as goal

pub returns : goal.returns
returns c =
    let entries = c.self.inside.tags.items in
    rw (← c.self.view_is) (taken-is c.self.inside.slots entries c.args.tag c.has.result c.self.invariant.has_tags (rw (← c.from.ensures) c.has.ensures.some)
    (rw (← c.from.ensures) c.has.ensures.none))
