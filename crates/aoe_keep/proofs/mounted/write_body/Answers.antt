use Rattle.aoe_keep.proofs.Writes.{writes_body}
use Rattle.aoe_keep.proofs.Others.{body_others}
use Rattle.aoe_keep.proofs.mounted.write_body.Goals as goal

pub returns-clause-body : goal.returns-clause-body
returns-clause-body g c = writes_body c.from.result c.args.slot c.from.ensures c.requires.slot c.args.body.now c.write.result (g.D.Disk.state c.args.disk.now)
    (g.D.Disk.state c.write.new.self) c.requires.room c.requires.len c.write.ensures

pub returns-clause-others : goal.returns-clause-others
returns-clause-others g c = body_others c.args.slot c.args.body.now c.write.result (g.D.Disk.state c.args.disk.now)
    (g.D.Disk.state c.write.new.self) c.requires.slot
    (writes_body c.from.result c.args.slot c.from.ensures c.requires.slot c.args.body.now c.write.result (g.D.Disk.state c.args.disk.now)
    (g.D.Disk.state c.write.new.self) c.requires.room c.requires.len c.write.ensures)
