use Rattle.std.proofs.Common.{◌≡◌}
use Rattle.aoe_wire.proofs.SendLemmas.{SoFar}
use Rattle.aoe_wire.proofs.send.give_each.Given as goal

abbrev pub invariant-peers : goal.invariant-peers
invariant-peers g l = SoFar (g.M.Medium.givings l.initial.medium) (g.M.Medium.givings l.medium) l.frame l.peer
    × (g.M.Medium.takings l.medium ≡ g.M.Medium.takings l.initial.medium)
