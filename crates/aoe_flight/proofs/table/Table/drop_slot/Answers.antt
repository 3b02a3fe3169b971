use Rattle.aoe_flight.proofs.ChangeLemmas.{indexed-dropped, removed}
use Rattle.aoe_flight.proofs.table.Table.drop_slot.Goals as goal

pub invariant_of-self : goal.invariant_of-self
invariant_of-self c =
    let at = rw (← c.self.view_is) at c.requires.there in
    let slots = c.remove.ensures in
    let tag = c.remove-2.ensures in
    let last = c.remove-3.ensures in
    indexed-dropped c.args.slot c.args.command at c.requires.rests slots.updates slots.len slots.capacity
    (removed c.self.inside.tags c.remove-2.new.order c.by_tag.ensures tag.taken tag.room)
    (removed c.self.inside.rests c.remove-3.new.order c.by_last.ensures last.taken last.room) c.self.invariant
