use Rattle.std.proofs.Common.{length}
use Rattle.aoe_cache.specs.Cache.{cache_of}
use Rattle.aoe_cache.proofs.Beneath.{reads_under}
use Rattle.aoe_cache.proofs.cached.CachedStore.read.Goals as goal

pub returns-clause-under : goal.returns-clause-under
returns-clause-under g c =
    let b = c.self.inside.behind in
    rw (← c.self.view_is) (reads_under g.D.Disk.state c.args.at (length c.args.out.now) c.read.result (cache_of b)
    (cache_of c.read.new.self) c.read.ensures.reads)
