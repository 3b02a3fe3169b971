use Rattle.std.proofs.Common.{sym}
use Rattle.aoe_base.proofs.CommonLemmas.{if-none}
use Rattle.aoe_flight.proofs.TableLemmas.{slot-held}
use Rattle.aoe_flight.proofs.TimeLemmas.{first-above, none-above}
use Rattle.aoe_flight.proofs.table.Table.look_above.Goals as goal

pub returns-in_err-first-clause-none : goal.returns-in_err-first-clause-none
returns-in_err-first-clause-none g c =
    if-none c.from_residual.result _ (rw (← c.self.view_is) (none-above c.args.above.0 c.self.invariant.has_tickets (rw c.from.ensures at c.in_err-first.ensures.none)))

pub returns-in_err-command-clause-none : goal.returns-in_err-command-clause-none
returns-in_err-command-clause-none g c =
    absurd (slot-held c.in_ok-first.first c.self.invariant.has_tickets c.in_ok-first.ensures.there (sym c.in_err-command.ensures))

pub returns-clause-first : goal.returns-clause-first
returns-clause-first g c =
    rw (← c.self.view_is) (first-above c.args.above.0 c.self.invariant.has_tickets c.in_ok-first.first c.in_ok-command.command.now
    c.in_ok-first.ensures.there (rw c.from.ensures at c.in_ok-first.ensures.from) (rw c.from.ensures at c.in_ok-first.ensures.first)
    (sym c.in_ok-command.ensures))
