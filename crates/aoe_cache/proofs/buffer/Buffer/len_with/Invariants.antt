use Rattle.std.proofs.Common.{◌≡◌}
use Rattle.aoe_cache.specs.Held.{held_of}
use Rattle.aoe_cache.proofs.Steps.{some_written}
use Rattle.aoe_cache.proofs.buffer.Buffer.len_with.Given as goal

abbrev pub invariant-sectors : goal.invariant-sectors
invariant-sectors l = l.len ≡ some_written l.at l.i (held_of l.self)
