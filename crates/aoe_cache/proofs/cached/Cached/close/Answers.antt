use Rattle.aoe_cache.proofs.Down.{held_in}
use Rattle.aoe_cache.proofs.Freeing.{keeps_settled}
use Rattle.aoe_cache.proofs.cached.Cached.close.Goals as goal

pub returns-clause-kept : goal.returns-clause-kept
returns-clause-kept g c =
    let disk = g.D.Disk.state c.self.inside.behind.disk in
    rw (← c.self.view_is) (keeps_settled (held_in c.self.invariant.buffer) disk.contents c.self.invariant.disk.shape)
