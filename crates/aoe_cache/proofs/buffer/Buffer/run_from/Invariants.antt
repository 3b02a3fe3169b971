use Rattle.std.proofs.Common.{◌≤◌, ◌<◌, ◌+◌, ◌-◌, take, drop}
use Rattle.aoe_cache.specs.Down.{AreAdjacent}
use Rattle.aoe_cache.specs.Held.{placed}
use Rattle.aoe_cache.proofs.buffer.Buffer.run_from.Given as goal

abbrev pub invariant-adjacent : goal.invariant-adjacent
invariant-adjacent l = record {
  some : 0 < l.count;
  most : l.count ≤ 64;
  there : l.from + l.count ≤ l.held;
  adjacent : AreAdjacent l.first (take l.count (drop l.from (placed l.self)));
}

abbrev pub decreases-adjacent : goal.decreases-adjacent
decreases-adjacent l = 64 - l.count
