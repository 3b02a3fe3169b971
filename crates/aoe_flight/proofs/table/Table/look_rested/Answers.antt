use Rattle.std.proofs.Common.{sym}
use Rattle.aoe_base.proofs.CommonLemmas.{if-none}
use Rattle.aoe_flight.proofs.TableLemmas.{first-held, head-held, none-pass}
use Rattle.aoe_flight.proofs.TimeLemmas.{before-earlier}
use Rattle.aoe_flight.specs.Outstanding.{is_earlier}
use Rattle.aoe_flight.specs.Table.{rests}
use Rattle.aoe_flight.proofs.table.Table.look_rested.Goals as goal

pub returns-in_err-first-clause-none : goal.returns-in_err-first-clause-none
returns-in_err-first-clause-none g c =
    if-none c.from_residual.result _ (rw (← c.self.view_is) (none-pass rests (λ d is. is) c.self.invariant.has_resting (sym c.in_err-first.ensures.value)))

pub returns-in_err-command-clause-none : goal.returns-in_err-command-clause-none
returns-in_err-command-clause-none g c =
    absurd (head-held c.in_ok-first.first.now c.self.invariant.has_resting (sym c.in_ok-first.ensures.value) (sym c.in_err-command.ensures))

pub returns-clause-first : goal.returns-clause-first
returns-clause-first g c =
    rw (← c.self.view_is) (first-held is_earlier c.in_ok-first.first.now c.in_ok-command.command.now before-earlier c.self.invariant.has_resting
    c.in_ok-first.ensures.order (sym c.in_ok-first.ensures.value) (sym c.in_ok-command.ensures))
