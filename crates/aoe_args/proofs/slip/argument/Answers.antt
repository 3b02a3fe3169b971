-- Each turn looks at the next argument.
use Rattle.std.proofs.Common.{◌∙◌, sym, rules}
use Rattle.aoe_args.specs.Apps.{argument}
use Rattle.aoe_args.proofs.FindLemmas.{behind_here, behind_nothing, behind_option, behind_word}
use Rattle.aoe_args.proofs.slip.argument.Goals as goal

pub arguments-preserved-then-is_option : goal.arguments-preserved-then-is_option
arguments-preserved-then-is_option c =
    behind_option argument c.args.form.1.now c.arguments.argument-index c.arguments.left _ c.arguments-test.true (sym c.is_option.ensures ∙ c.if-is_option.true)
    ∙ c.arguments.invariant

pub returns-then-takes_several : goal.returns-then-takes_several
returns-then-takes_several c =
    sym (behind_here argument c.args.form.1.now c.arguments.argument-index c.arguments.left _ c.arguments-test.true (search rules) (search rules))
    ∙ c.arguments.invariant

pub arguments-preserved : goal.arguments-preserved
arguments-preserved c =
    behind_word argument c.args.form.1.now c.arguments.argument-index c.arguments.left _ c.arguments-test.true
    (sym c.is_option.ensures ∙ c.if-is_option.false) (search rules)
    ∙ c.arguments.invariant

pub returns : goal.returns
returns c = sym (behind_nothing argument c.args.form.1.now c.arguments.argument-index c.arguments.left c.arguments-test.false) ∙ c.arguments.invariant
