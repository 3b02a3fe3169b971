use Rattle.std.proofs.Common.{◌≡◌, ◌<◌, length, arith}
use Rattle.slab.specs.Slab.{slab_len, values, Slab}
use Rattle.aoe_flight.specs.declared.outstanding.Outstanding.{Outstanding}
use Rattle.aoe_flight.proofs.ChangeLemmas.{indexed-inserted, inserted, more-fits}
use Rattle.aoe_flight.proofs.InsertLemmas.{inserted as values-inserted}
use Rattle.aoe_flight.proofs.SlotLemmas.{length-held}
use Rattle.aoe_flight.proofs.table.Table.insert.Goals as goal

-- there is room for one more
more : (slab table : Slab Outstanding) → slab ≡ table → length (values table) < table.capacity → slab_len slab < slab.capacity
more slab table is room = rw (is, length-held table.slots) room

pub insert_reserved-slot-requires : goal.insert_reserved-slot-requires
insert_reserved-slot-requires c = omega (arith, more c.self.inside.slots c.args.self.now c.self.view_is c.requires.room)

pub insert-requires : goal.insert-requires
insert-requires c =
    more-fits c.self.inside.tags c.self.invariant.has_tags c.self.invariant.tags_room
    (more c.self.inside.slots c.args.self.now c.self.view_is c.requires.room)

pub insert-requires-2 : goal.insert-requires-2
insert-requires-2 c =
    more-fits c.self.inside.tickets c.self.invariant.has_tickets c.self.invariant.tickets_room
    (more c.self.inside.slots c.args.self.now c.self.view_is c.requires.room)

pub insert-requires-3 : goal.insert-requires-3
insert-requires-3 c =
    more-fits c.self.inside.dues c.self.invariant.has_dues c.self.invariant.dues_room
    (more c.self.inside.slots c.args.self.now c.self.view_is c.requires.room)

pub insert-requires-4 : goal.insert-requires-4
insert-requires-4 c =
    more-fits c.self.inside.firsts c.self.invariant.has_firsts c.self.invariant.firsts_room
    (more c.self.inside.slots c.args.self.now c.self.view_is c.requires.room)

pub invariant_of-self : goal.invariant_of-self
invariant_of-self c =
    let old = c.self.inside in
    let slots = c.insert_reserved-slot.ensures in
    let tag = c.insert.ensures in
    let ticket = c.insert-2.ensures in
    let due = c.insert-3.ensures in
    let first = c.insert-4.ensures in
    indexed-inserted c.insert_reserved-slot.result c.args.command c.requires.flies
    (record {
      vacant = slots.was_vacant;
      updates = slots.updates;
      long = slots.len;
      capacity = slots.capacity;
      more = more old.slots c.args.self.now c.self.view_is c.requires.room;
    })
    (inserted old.tags c.insert.new.self c.by_tag.ensures tag.items tag.room)
    (record {
      ticket = inserted old.tickets c.insert-2.new.self c.by_ticket.ensures ticket.items ticket.room;
      due = inserted old.dues c.insert-3.new.self c.by_due.ensures due.items due.room;
      first = inserted old.firsts c.insert-4.new.self c.by_first.ensures first.items first.room;
    }) c.self.invariant

pub returns-clause-values : goal.returns-clause-values
returns-clause-values c =
    let updates = c.insert_reserved-slot.ensures.updates in
    rw (← c.self.view_is) (values-inserted c.self.inside.slots.slots _ c.insert_reserved-slot.result c.args.command c.insert_reserved-slot.ensures.was_vacant
    updates.changed updates.others)
