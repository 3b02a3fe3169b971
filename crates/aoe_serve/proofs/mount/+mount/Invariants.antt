use Rattle.std.proofs.Common.{length}
use Rattle.aoe_serve.proofs.mount.+mount.Given as goal

abbrev pub decreases-mount : goal.decreases-mount
decreases-mount g l = length l.disks.now
