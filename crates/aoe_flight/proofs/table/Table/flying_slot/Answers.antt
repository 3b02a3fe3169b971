use Rattle.std.proofs.Common.{sym}
use Rattle.aoe_flight.specs.Order.{entry_at}
use Rattle.aoe_base.proofs.CommonLemmas.{if-none}
use Rattle.aoe_flight.proofs.TableLemmas.{first-slot, no-slot, slot-held}
use Rattle.aoe_flight.proofs.table.Table.flying_slot.Goals as goal

pub returns-in_err-slot-clause-none : goal.returns-in_err-slot-clause-none
returns-in_err-slot-clause-none c =
    if-none c.from_residual.result _ (λ k d from at.
    no-slot c.self.inside.slots c.self.inside.tickets.items c.args.ticket.0 k d c.self.invariant.has_tickets
    (rw (← c.from.ensures) (c.in_err-slot.ensures.none k from)) (rw (← c.self.view_is) at at))

pub returns-in_err-command-clause-none : goal.returns-in_err-command-clause-none
returns-in_err-command-clause-none c =
    absurd (slot-held (entry_at c.from.result c.in_ok-slot.slot) c.self.invariant.has_tickets c.in_ok-slot.ensures.there (sym c.in_err-command.ensures))

pub returns-clause-some : goal.returns-clause-some
returns-clause-some c =
    rw (← c.self.view_is) (first-slot c.self.inside.slots c.self.inside.tickets.items c.args.ticket.0 c.args.from c.in_ok-slot.slot
    c.in_ok-command.command.now
    c.self.invariant.has_tickets (rw (← c.from.ensures) c.in_ok-slot.ensures.there) c.in_ok-slot.ensures.from
    (rw (← c.from.ensures) c.in_ok-slot.ensures.first) (sym c.in_ok-command.ensures))
