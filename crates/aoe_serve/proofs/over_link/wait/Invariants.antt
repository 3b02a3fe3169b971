use Rattle.std.proofs.Common.{◌≡◌, replicate}
use Rattle.aoe_io.specs.Link.{Turned, quiet}
use Rattle.aoe_serve.proofs.over_link.wait.Given as goal

abbrev pub invariant-turns : goal.invariant-turns
invariant-turns g l =
    Turned (g.L.Link.turns l.initial.link) (g.L.Link.turns l.link) (g.L.Link.given l.initial.link) (g.L.Link.given l.link) (replicate l.turn quiet)
    × (g.L.Link.taken l.link ≡ g.L.Link.taken l.initial.link)
    × (g.L.Link.faults l.link ≡ g.L.Link.faults l.initial.link)
