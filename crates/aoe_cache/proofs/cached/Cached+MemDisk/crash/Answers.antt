use Rattle.aoe_disk.specs.Memory.{state_of}
use Rattle.aoe_cache.proofs.Down.{held_in}
use Rattle.aoe_cache.proofs.Freeing.{keeps_settled}
use Rattle.aoe_cache.proofs.cached.Cached+MemDisk.crash.Goals as goal

pub returns-clause-kept : goal.returns-clause-kept
returns-clause-kept c =
    rw (← c.self.view_is) (keeps_settled (held_in c.self.invariant.buffer) (state_of c.self.inside.behind.disk).contents c.self.invariant.disk.shape)
