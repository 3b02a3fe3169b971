use Rattle.std.proofs.Common.{ap, is_err}
use Rattle.aoe_mirror.proofs.Naming.{keeps_written, touch_synced, touch_written}
use Rattle.aoe_mirror.proofs.names.write_names.Goals as goal

pub returns-in-Ok-clause-names : goal.returns-in-Ok-clause-names
returns-in-Ok-clause-names g c = keeps_written c.args.names.now c.sector_of-marked.result c.sector_of-marked.ensures.len c.sector_of-marked.ensures.names
    (g.D.Disk.state c.args.disk.now) (g.D.Disk.state c.write.new.self) c.write.result c.requires.disk c.requires.room c.write.ensures (ap is_err c.in-Ok.is)
    c.sync.result (g.D.Disk.state c.sync.new.self) c.sync.ensures

pub returns-in-Ok-clause-touches : goal.returns-in-Ok-clause-touches
returns-in-Ok-clause-touches g c = touch_synced 2 c.sector_of-marked.result c.sector_of-marked.ensures.len (g.D.Disk.state c.args.disk.now)
    (g.D.Disk.state c.write.new.self) c.write.result c.requires.disk c.requires.room c.write.ensures c.sync.result (g.D.Disk.state c.sync.new.self) c.sync.ensures

pub returns-in-Err-clause-touches : goal.returns-in-Err-clause-touches
returns-in-Err-clause-touches g c = touch_written 2 c.sector_of-marked.result c.sector_of-marked.ensures.len (g.D.Disk.state c.args.disk.now)
    (g.D.Disk.state c.write.new.self) c.write.result c.requires.disk c.requires.room c.write.ensures
