use Rattle.std.proofs.Common.{◌≡◌}
use Rattle.aoe_tools.proofs.VisitLemmas.{Visiting}
use Rattle.aoe_tools.proofs.visiting.visit_all.Given as goal

abbrev pub invariant-devices : goal.invariant-devices
invariant-devices g l =
    Visiting l.first l.ask.port l.ask.turns l.i l.initial.found l.found (g.L.Link.turns l.initial.link) (g.L.Link.turns l.link)
    (g.L.Link.given l.initial.link) (g.L.Link.given l.link) (g.L.Link.taken l.initial.link) (g.L.Link.taken l.link)
    × (g.L.Link.faults l.link ≡ g.L.Link.faults l.initial.link)
