use Rattle.std.proofs.Common.{refl, sym, ◌∙◌}
use Rattle.aoe_flight.specs.Outstanding.{is_due}
use Rattle.aoe_base.proofs.CommonLemmas.{if-none}
use Rattle.aoe_flight.proofs.TableLemmas.{all-passing, due-all, due-flying, first-passing}
use Rattle.aoe_flight.proofs.search.first_due.Goals as goal

pub returns-in_err-command-clause-none : goal.returns-in_err-command-clause-none
returns-in_err-command-clause-none g c =
    if-none c.from_residual.result _ (all-passing _ (is_due c.args.now.0) (due-flying c.args.now.0) c.in_err-command.ensures.none)

pub returns-then-is_due-clause-first : goal.returns-then-is_due-clause-first
returns-then-is_due-clause-first g c = (
  c.in_ok-command.command.now,
  refl,
  first-passing (is_due c.args.now.0) (due-flying c.args.now.0)
      (sym c.is_due.ensures ∙ c.if-is_due.true) c.in_ok-command.ensures.first,
)

pub returns-else-is_due-clause-none : goal.returns-else-is_due-clause-none
returns-else-is_due-clause-none g c =
    due-all c.args.now.0 c.in_ok-command.command.now (sym c.is_due.ensures ∙ c.if-is_due.false) c.requires c.in_ok-command.ensures.first
