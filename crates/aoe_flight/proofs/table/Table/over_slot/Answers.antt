use Rattle.std.proofs.Common.{sym, ◌∙◌}
use Rattle.aoe_flight.specs.Outstanding.{is_over}
use Rattle.aoe_base.proofs.CommonLemmas.{if-none}
use Rattle.aoe_flight.proofs.TableLemmas.{head-held, none-pass, none-past, over-past, over-rests}
use Rattle.aoe_flight.proofs.table.Table.over_slot.Goals as goal

pub returns-in_err-first-clause-none : goal.returns-in_err-first-clause-none
returns-in_err-first-clause-none c =
    let over = is_over c.args.rest.0 c.args.now.0 in
    if-none c.from_residual.result _
    (rw (← c.self.view_is) (none-pass over (over-rests c.args.rest.0 c.args.now.0) c.self.invariant.has_resting (sym c.in_err-first.ensures.value)))

pub returns-in_err-command-clause-none : goal.returns-in_err-command-clause-none
returns-in_err-command-clause-none c =
    absurd (head-held c.in_ok-first.first.now c.self.invariant.has_resting (sym c.in_ok-first.ensures.value) (sym c.in_err-command.ensures))

pub returns-then-is_over-clause-some : goal.returns-then-is_over-clause-some
returns-then-is_over-clause-some c = (rw (← c.self.view_is) (sym c.in_ok-command.ensures), sym c.is_over.ensures ∙ c.if-is_over.true)

pub returns-else-is_over-clause-none : goal.returns-else-is_over-clause-none
returns-else-is_over-clause-none c =
    let rest = c.args.rest.0 in
    let now = c.args.now.0 in
    let command = c.in_ok-command.command.now in
    rw (← c.self.view_is) (none-past (is_over rest now) c.in_ok-first.first.now command
    (over-rests rest now) c.self.invariant.has_resting c.in_ok-first.ensures.order
    (sym c.in_ok-first.ensures.value) (sym c.in_ok-command.ensures)
    (λ k d at_k finished later. over-past rest now command d finished (sym c.is_over.ensures ∙ c.if-is_over.false) later))
