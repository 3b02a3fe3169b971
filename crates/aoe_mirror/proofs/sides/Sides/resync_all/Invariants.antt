use Rattle.std.proofs.Common.{◌-◌, ◌≡◌, length}
use Rattle.aoe_base.specs.Sizes.{scratch_bytes}
use Rattle.aoe_mirror.specs.Sides.{pair_of}
use Rattle.aoe_mirror.proofs.Passing.{Passes}
use Rattle.aoe_mirror.proofs.sides.Sides.resync_all.Given as goal

abbrev pub invariant-runs : goal.invariant-runs
invariant-runs g l = Passes l.from (pair_of g.D.Disk.state l.fn.self) (pair_of g.D.Disk.state l.self) × (length l.scratch ≡ scratch_bytes)

abbrev pub decreases-runs : goal.decreases-runs
decreases-runs g l = length l.fn.self.stale - l.from
