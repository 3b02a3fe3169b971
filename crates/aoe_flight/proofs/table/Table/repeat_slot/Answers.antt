use Rattle.aoe_flight.specs.Table.{by_due}
use Rattle.aoe_flight.proofs.ChangeLemmas.{again-fits, flies-true, indexed-repeated, inserted, removed}
use Rattle.aoe_flight.proofs.IndexLemmas.{entry-of}
use Rattle.aoe_flight.proofs.table.Table.repeat_slot.Goals as goal

pub insert-requires : goal.insert-requires
insert-requires c =
    let i = c.self.invariant in
    let at = rw (← c.self.view_is) at c.requires.there in
    let out = c.remove.ensures in
    again-fits {e = by_due c.args.slot c.args.command} c.self.inside.dues c.remove.new.order i.has_dues i.dues_room i.fits
    (entry-of i.has_dues c.args.slot c.args.command at (flies-true c.args.command c.requires.flies))
    (removed c.self.inside.dues c.remove.new.order c.by_due.ensures out.taken out.room)

pub invariant_of-self : goal.invariant_of-self
invariant_of-self c =
    let at = rw (← c.self.view_is) at c.requires.there in
    let out = c.remove.ensures in
    let back = c.insert.ensures in
    indexed-repeated c.args.slot c.args.command c.repeated-repeated.result c.args.now c.args.path c.args.wait at c.requires.flies c.repeated-repeated.ensures
    (record {
      between = c.remove.new.order;
      out = removed c.self.inside.dues c.remove.new.order c.by_due.ensures out.taken out.room;
      back = inserted c.remove.new.order c.insert.new.self c.by_due-2.ensures back.items back.room;
    }) c.self.invariant
