use Rattle.std.proofs.Common.{◌≡◌}
use Rattle.aoe_serve.specs.Slots.{slots_of}
use Rattle.aoe_serve.proofs.LinkLemmas.{SoFar}
use Rattle.aoe_serve.proofs.over_link.serve.Given as goal

abbrev pub invariant-frames : goal.invariant-frames
invariant-frames g l =
    SoFar l.frames l.idle (g.L.Link.turns l.initial.link) (g.L.Link.turns l.link) (g.L.Link.given l.initial.link) (g.L.Link.given l.link)
    (g.L.Link.taken l.initial.link) (g.L.Link.taken l.link)
    (slots_of g.S.Store.lasts g.S.Store.state g.D.Disk.state l.initial.shelf.targets)
    (slots_of g.S.Store.lasts g.S.Store.state g.D.Disk.state l.shelf.targets) l.count
    × (l.shelf ≡ record l.initial.shelf { targets = l.shelf.targets })
    × (g.L.Link.faults l.link ≡ g.L.Link.faults l.initial.link)
