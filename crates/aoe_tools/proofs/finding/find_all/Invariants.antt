use Rattle.std.proofs.Common.{◌≡◌, ◌≤◌}
use Rattle.aoe_tools.proofs.DiscoverLemmas.{Finds}
use Rattle.aoe_tools.specs.Listening.{left}
use Rattle.aoe_tools.proofs.finding.find_all.Given as goal

abbrev pub invariant-responses : goal.invariant-responses
invariant-responses g l =
    Finds l.question l.request.items l.turns l.wait l.found (g.L.Link.turns l.initial.link) (g.L.Link.turns l.link) (g.L.Link.given l.initial.link)
    (g.L.Link.given l.link) (g.L.Link.taken l.initial.link) (g.L.Link.taken l.link)
    × (l.wait.turns ≤ l.turns)
    × (g.L.Link.faults l.link ≡ g.L.Link.faults l.initial.link)

abbrev pub decreases-responses : goal.decreases-responses
decreases-responses g l = left l.turns l.wait
