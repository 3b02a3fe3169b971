use Rattle.aoe_cache.specs.Cache.{cache_of}
use Rattle.aoe_cache.proofs.Beneath.{frees_under}
use Rattle.aoe_cache.proofs.Down.{held_in}
use Rattle.aoe_cache.proofs.Freeing.{frees_room}
use Rattle.aoe_cache.proofs.Seen.{syncs_seen}
use Rattle.aoe_cache.proofs.cached.CachedStore.sync.Goals as goal

pub returns-clause-syncs : goal.returns-clause-syncs
returns-clause-syncs g c =
    let b = c.self.inside.behind in
    rw (← c.self.view_is) (syncs_seen g.D.Disk.state c.sync.result (cache_of b) (cache_of c.sync.new.self) c.self.invariant.disk
    (held_in c.self.invariant.buffer) c.sync.ensures.syncs)

pub returns-clause-free : goal.returns-clause-free
returns-clause-free g c =
    let b = c.self.inside.behind in
    rw (← c.self.view_is) (frees_room g.D.Disk.state (cache_of b) (cache_of c.sync.new.self) c.self.invariant.disk
    (held_in c.self.invariant.buffer) c.sync.result c.sync.ensures.syncs)

pub returns-clause-under : goal.returns-clause-under
returns-clause-under g c =
    let b = c.self.inside.behind in
    rw (← c.self.view_is) (frees_under g.D.Disk.state c.sync.result (cache_of b) (cache_of c.sync.new.self) c.self.invariant.disk
    (held_in c.self.invariant.buffer) c.sync.ensures.syncs)
