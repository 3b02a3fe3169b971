use Rattle.std.proofs.Common.{arith, sym, ◌∙◌}
use Rattle.aoe_hold.proofs.MoveLemmas.{none-more, none_command}
use Rattle.aoe_hold.proofs.OutsideLemmas.{outside-free}
use Rattle.aoe_hold.proofs.holds.blocker.Goals as goal

pub earlier-preserved : goal.earlier-preserved
earlier-preserved c = (
  omega (arith, c.earlier.invariant.0),
  none-more c.args.commands.now c.args.command.now c.earlier.left c.args.until none_command (omega (arith, c.earlier-test.true))
      (omega (arith, c.earlier.invariant.0, c.requires.within)) (sym c.blocks-in-earlier.ensures ∙ c.if-blocks.false) c.earlier.invariant.1,
)

pub returns-clause-none : goal.returns-clause-none
returns-clause-none c =
    outside-free c.requires c.earlier.left c.earlier-test.false c.earlier.invariant.1
