use Rattle.std.proofs.Common.{length}
use Rattle.aoe_disk.specs.Calls.{IsRange}
use Rattle.aoe_store.proofs.Spoiling.{writes_store}
use Rattle.aoe_store.proofs.direct.DirectStore.write.Goals as goal

pub returns-clause-stores : goal.returns-clause-stores
returns-clause-stores g c =
    let range : IsRange c.args.at (length c.args.piece.now) (g.D.Disk.state c.self.inside.disk).sectors = rw c.self.view_is c.requires in
    rw (← c.self.view_is) (writes_store c.args.at c.args.piece.now c.write.result (g.D.Disk.state c.self.inside.disk)
    (g.D.Disk.state c.write.new.self) range c.write.ensures)
