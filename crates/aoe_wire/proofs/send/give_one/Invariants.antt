use Rattle.std.proofs.Common.{◌≡◌}
use Rattle.aoe_wire.proofs.SendLemmas.{Interrupted}
use Rattle.aoe_wire.proofs.send.give_one.Given as goal

abbrev pub invariant-tries : goal.invariant-tries
invariant-tries g l = Interrupted (g.M.Medium.givings l.initial.medium) (g.M.Medium.givings l.medium) l.peer l.frame l.counter
    × (g.M.Medium.takings l.medium ≡ g.M.Medium.takings l.initial.medium)
