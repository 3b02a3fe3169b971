use Rattle.std.proofs.Common.{false, true}
use Rattle.aoe_serve.proofs.over_mirror.export_since.Given as goal

abbrev pub ghosts-mirror_at-A-Given : goal.ghosts-mirror_at-A-Given
ghosts-mirror_at-A-Given g a = record { faults = g.G.Given.faults; lead = a.mirror.sides.side; whole = true; told = g.W.MirrorWatch.told a.watch }

abbrev pub ghosts-mirror_at-B-Given : goal.ghosts-mirror_at-B-Given
ghosts-mirror_at-B-Given g a = record { faults = g.G.Given.faults; lead = a.mirror.sides.side; whole = false; told = g.W.MirrorWatch.told a.watch }
