-- Each turn looks at the next argument.
use Rattle.std.proofs.Common.{◌∙◌, sym, rules}
use Rattle.aoe_args.specs.Apps.{argument}
use Rattle.aoe_args.proofs.FindLemmas.{option_here, option_later, option_nowhere}
use Rattle.aoe_args.proofs.slip.option_in.Goals as goal

pub returns-then-is_named : goal.returns-then-is_named
returns-then-is_named c =
    sym (option_here argument c.args.form.1.now c.arguments.argument-index c.args.name.now _ c.arguments-test.true (search rules))
    ∙ c.arguments.invariant

pub arguments-preserved : goal.arguments-preserved
arguments-preserved c =
    option_later argument c.args.form.1.now c.arguments.argument-index c.args.name.now _ c.arguments-test.true (sym c.is_named.ensures ∙ c.if-is_named.false)
    ∙ c.arguments.invariant

pub returns : goal.returns
returns c = sym (option_nowhere argument c.args.form.1.now c.arguments.argument-index c.args.name.now c.arguments-test.false) ∙ c.arguments.invariant
