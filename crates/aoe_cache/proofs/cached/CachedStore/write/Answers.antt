use Rattle.aoe_cache.specs.Cache.{cache_of}
use Rattle.aoe_cache.proofs.Beneath.{spends_under}
use Rattle.aoe_cache.proofs.Down.{held_in}
use Rattle.aoe_cache.proofs.Freeing.{spends_free}
use Rattle.aoe_cache.proofs.Seen.{writes_seen}
use Rattle.aoe_cache.proofs.cached.CachedStore.write.Goals as goal

pub returns-clause-stores : goal.returns-clause-stores
returns-clause-stores g c =
    let b = c.self.inside.behind in
    let range = rw (← c.self.view_is) at c.requires in
    rw (← c.self.view_is) (writes_seen g.D.Disk.state c.args.at c.args.piece.now c.write.result (cache_of b)
    (cache_of c.write.new.self) range c.self.invariant.disk (held_in c.self.invariant.buffer) c.write.ensures.writes)

pub returns-clause-free : goal.returns-clause-free
returns-clause-free g c =
    let b = c.self.inside.behind in
    let range = rw (← c.self.view_is) at c.requires in
    rw (← c.self.view_is) (spends_free g.D.Disk.state c.args.at c.args.piece.now c.write.result (cache_of b)
    (cache_of c.write.new.self) range c.write.ensures.writes)

pub returns-clause-under : goal.returns-clause-under
returns-clause-under g c =
    let b = c.self.inside.behind in
    let range = rw (← c.self.view_is) at c.requires in
    rw (← c.self.view_is) (spends_under g.D.Disk.state c.write.result (cache_of b) (cache_of c.write.new.self) c.self.invariant.disk
    (held_in c.self.invariant.buffer) c.args.at c.args.piece.now range c.write.ensures.writes)
