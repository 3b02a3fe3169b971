use Rattle.std.proofs.Common.{◌≡◌, length}
use Rattle.aoe_cache.proofs.buffer.Buffer.new.Given as goal

abbrev pub invariant-places : goal.invariant-places
invariant-places l = length l.all.items ≡ l.counter
