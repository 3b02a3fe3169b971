use Rattle.std.proofs.Common.{◌≡◌, ◌≤◌}
use Rattle.aoe_tools.proofs.ListenLemmas.{SoFar}
use Rattle.aoe_tools.specs.Listening.{left}
use Rattle.aoe_tools.proofs.asking.listen.Given as goal

abbrev pub invariant-turns : goal.invariant-turns
invariant-turns g l =
    SoFar l.question l.request.items l.limit l.initial.wait l.wait (g.L.Link.turns l.initial.link) (g.L.Link.turns l.link)
    (g.L.Link.given l.initial.link) (g.L.Link.given l.link) (g.L.Link.taken l.initial.link) (g.L.Link.taken l.link)
    × (l.wait.turns ≤ l.limit)
    × (g.L.Link.faults l.link ≡ g.L.Link.faults l.initial.link)

abbrev pub decreases-turns : goal.decreases-turns
decreases-turns g l = left l.limit l.wait
