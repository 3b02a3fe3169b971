use Rattle.std.proofs.Common.{ℕ, ◌≤◌}
use Rattle.aoe_net.specs.Network.{IsNumberOf}
use Rattle.aoe_net.proofs.net.Net.newest_equal.Given as goal

abbrev pub invariant-loop-index : goal.invariant-loop-index
invariant-loop-index l = (k : ℕ) → IsNumberOf l.self l.frame k → k ≤ l.index
