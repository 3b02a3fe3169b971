use Rattle.aoe_flight.specs.Table.{by_tag}
use Rattle.aoe_flight.proofs.ChangeLemmas.{again-fits, indexed-finished, inserted, removed, resting-fits}
use Rattle.aoe_flight.proofs.IndexLemmas.{entry-of}
use Rattle.std.proofs.Common.{refl}
use Rattle.aoe_flight.proofs.table.Table.finish_slot.Goals as goal

pub insert-requires : goal.insert-requires
insert-requires c =
    let i = c.self.invariant in
    let at = rw (← c.self.view_is) at c.requires.there in
    let out = c.remove.ensures in
    again-fits {e = by_tag c.args.slot c.args.command} c.self.inside.tags c.remove.new.order i.has_tags i.tags_room i.fits
    (entry-of i.has_tags c.args.slot c.args.command at refl)
    (removed c.self.inside.tags c.remove.new.order c.by_tag.ensures out.taken out.room)

pub insert-requires-2 : goal.insert-requires-2
insert-requires-2 c = resting-fits c.args.slot c.args.command (rw (← c.self.view_is) at c.requires.there) c.requires.flies c.self.invariant

pub invariant_of-self : goal.invariant_of-self
invariant_of-self c =
    let at = rw (← c.self.view_is) at c.requires.there in
    let old = c.self.inside in
    let tag = c.remove.ensures in
    let ticket = c.remove-2.ensures in
    let due = c.remove-3.ensures in
    let first = c.remove-4.ensures in
    indexed-finished c.args.slot c.args.command at c.requires.flies
    (record {
      between = c.remove.new.order;
      out = removed old.tags c.remove.new.order c.by_tag.ensures tag.taken tag.room;
      back = inserted c.remove.new.order c.insert.new.self c.by_tag-2.ensures c.insert.ensures.items c.insert.ensures.room;
    })
    (record {
      ticket = removed old.tickets c.remove-2.new.order c.by_ticket.ensures ticket.taken ticket.room;
      due = removed old.dues c.remove-3.new.order c.by_due.ensures due.taken due.room;
      first = removed old.firsts c.remove-4.new.order c.by_first.ensures first.taken first.room;
    })
    (inserted old.rests c.insert-2.new.self c.by_last.ensures c.insert-2.ensures.items c.insert-2.ensures.room) c.self.invariant
