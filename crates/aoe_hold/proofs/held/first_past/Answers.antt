use Rattle.std.proofs.Common.{arith, rules}
use Rattle.aoe_hold.proofs.MoveLemmas.{none_command}
use Rattle.aoe_hold.proofs.PastLemmas.{one-more, one-whole, past-more, past-whole}
use Rattle.aoe_hold.proofs.held.first_past.Goals as goal

pub looked-preserved : goal.looked-preserved
looked-preserved c = (
  past-more c.args.life.0 c.looked.from c.past_from.result c.min-from.result c.looked.command-index c.args.commands.now none_command
      (search rules) c.looked-test.true c.past_from.ensures.before c.looked.invariant.0,
  one-more c.args.life.0 c.looked.from c.past_from.result c.min-from.result c.looked.command-index c.args.commands.now none_command
      (search rules) c.looked-test.true c.past_from.ensures.from c.looked.invariant.1,
)

pub returns-clause-before : goal.returns-clause-before
returns-clause-before c =
    past-whole c.args.life.0 c.looked.from c.looked.command-index c.args.commands.now (omega (arith, c.looked-test.false)) c.looked.invariant.0

pub returns-clause-from : goal.returns-clause-from
returns-clause-from c =
    one-whole c.args.life.0 c.looked.from c.looked.command-index c.args.commands.now (omega (arith, c.looked-test.false)) c.looked.invariant.1
