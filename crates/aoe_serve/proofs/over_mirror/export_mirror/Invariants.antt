use Rattle.std.proofs.Common.{None, false}
use Rattle.aoe_serve.specs.Mirroring.{faults_of}
use Rattle.aoe_serve.proofs.over_mirror.export_mirror.Given as goal

abbrev pub ghosts-export_since : goal.ghosts-export_since
ghosts-export_since g a = record { faults = faults_of g.D.Disk.state a.disks; lead = 0; whole = false; told = None }
