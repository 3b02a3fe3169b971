use Rattle.std.proofs.Common.{length}
use Rattle.aoe_disk.specs.Calls.{IsRange}
use Rattle.aoe_store.proofs.Lasting.{failed_lasts, synced_lasts}
use Rattle.aoe_store.proofs.durable.DurableStore.write.Goals as goal

pub returns-in-Ok-clause-stores : goal.returns-in-Ok-clause-stores
returns-in-Ok-clause-stores g c =
    let range : IsRange c.args.at (length c.args.piece.now) (g.S.Store.state c.self.inside.store).sectors = rw c.self.view_is c.requires in
    rw (← c.self.view_is) (synced_lasts _ _ g.S.Store.lasts c.args.at c.args.piece.now tt c.sync.result _
    (g.S.Store.state c.write.new.self) _ range c.in-Ok.ensures.stores c.sync.ensures.syncs)

pub returns-in-Err-clause-stores : goal.returns-in-Err-clause-stores
returns-in-Err-clause-stores g c =
    let range : IsRange c.args.at (length c.args.piece.now) (g.S.Store.state c.self.inside.store).sectors = rw c.self.view_is c.requires in
    rw (← c.self.view_is) (failed_lasts _ _ g.S.Store.lasts c.args.at c.args.piece.now _ _ _ range c.in-Err.ensures.stores)
