use Rattle.std.proofs.Common.{◌≡◌}
use Rattle.aoe_wire.proofs.TurnLemmas.{Going}
use Rattle.aoe_wire.proofs.turn.take_turn.Given as goal

abbrev pub invariant-tries : goal.invariant-tries
invariant-tries g l = Going (g.M.Medium.takings l.initial.medium) (g.M.Medium.takings l.medium) l.begun l.counter
    × (g.M.Medium.givings l.medium ≡ g.M.Medium.givings l.initial.medium)
