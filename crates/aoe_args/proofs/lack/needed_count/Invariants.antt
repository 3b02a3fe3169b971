use Rattle.std.proofs.Common.{◌≡◌, ◌≤◌, ◌+◌, drop, map}
use Rattle.aoe_args.specs.Apps.{argument, form}
use Rattle.aoe_args.specs.Places.{needed_count}
use Rattle.aoe_args.proofs.lack.needed_count.Given as goal

abbrev pub invariant-arguments : goal.invariant-arguments
invariant-arguments l = record {
  few : l.count ≤ l.argument-index;
  left : l.count + needed_count (map argument (drop l.argument-index l.argument-items)) ≡ needed_count (form l.fn.form).1;
}
