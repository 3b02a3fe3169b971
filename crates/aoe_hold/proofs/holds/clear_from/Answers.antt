use Rattle.std.proofs.Common.{◌∙◌, arith, rules}
use Rattle.std.proofs.lemmas.Bool.{le-leb}
use Rattle.aoe_hold.proofs.MoveLemmas.{lingers-more, none_command}
use Rattle.aoe_hold.proofs.OutsideLemmas.{behind-none, front-none}
use Rattle.aoe_hold.proofs.holds.clear_from.Goals as goal

pub earlier-preserved : goal.earlier-preserved
earlier-preserved c = (
  omega (arith, c.earlier.invariant.0),
  lingers-more c.args.life.0 c.args.commands.now c.args.command.now c.earlier.left c.earlier.from c.lingers_until.result c.max-from.result none_command
      (search rules) (omega (arith, c.earlier-test.true)) (omega (arith, c.earlier.invariant.0, c.requires.within)) c.earlier.invariant.1
      c.lingers_until.ensures,
)

pub returns : goal.returns
returns c = λ now later. front-none c.requires c.earlier.left now c.earlier-test.false later ∙ c.earlier.invariant.1 now

pub earlier-init : goal.earlier-init
earlier-init c = (omega arith, λ now. rw (behind-none c.requires now, le-leb 0 now (omega arith)))
