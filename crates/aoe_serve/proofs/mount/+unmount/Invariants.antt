use Rattle.std.proofs.Common.{length}
use Rattle.aoe_serve.proofs.mount.+unmount.Given as goal

abbrev pub decreases-unmount : goal.decreases-unmount
decreases-unmount g l = length l.disks.now
