use Rattle.std.proofs.Common.{◌≡◌, replicate}
use Rattle.aoe_paths.specs.Path.{new_path}
use Rattle.aoe_paths.proofs.paths.fresh.Given as goal

abbrev pub invariant-loop : goal.invariant-loop
invariant-loop l = l.paths.items ≡ replicate l.counter new_path
