use Rattle.std.proofs.Common.{◌≡◌, drop, map}
use Rattle.aoe_args.specs.Apps.{argument, form}
use Rattle.aoe_args.specs.Places.{argument_behind}
use Rattle.aoe_args.proofs.slip.argument.Given as goal

abbrev pub invariant-arguments : goal.invariant-arguments
invariant-arguments l = argument_behind (map argument (drop l.argument-index l.argument-items)) l.left ≡ argument_behind (form l.fn.form).1 l.fn.before
