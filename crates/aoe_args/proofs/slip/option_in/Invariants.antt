use Rattle.std.proofs.Common.{◌≡◌, drop, map}
use Rattle.aoe_args.specs.Apps.{argument, form}
use Rattle.aoe_args.specs.Places.{option_named}
use Rattle.aoe_args.proofs.slip.option_in.Given as goal

abbrev pub invariant-arguments : goal.invariant-arguments
invariant-arguments l = option_named (map argument (drop l.argument-index l.argument-items)) l.fn.name ≡ option_named (form l.fn.form).1 l.fn.name
