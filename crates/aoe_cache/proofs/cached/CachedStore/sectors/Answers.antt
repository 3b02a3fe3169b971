use Rattle.aoe_cache.proofs.Down.{held_in}
use Rattle.aoe_cache.proofs.Seen.{seen_disk}
use Rattle.aoe_cache.proofs.cached.CachedStore.sectors.Goals as goal

pub returns-clause-disk : goal.returns-clause-disk
returns-clause-disk g c =
    rw (← c.self.view_is) (seen_disk c.self.invariant.disk (held_in c.self.invariant.buffer))
