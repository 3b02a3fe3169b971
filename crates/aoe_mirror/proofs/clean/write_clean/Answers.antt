use Rattle.std.proofs.Common.{ap, is_err, arith}
use Rattle.aoe_disk.proofs.Runs.{run_stop}
use Rattle.aoe_mirror.proofs.Cleaning.{name_synced, name_written, says_written}
use Rattle.aoe_mirror.proofs.Naming.{touch_synced, touch_written}
use Rattle.aoe_mirror.proofs.clean.write_clean.Goals as goal

pub returns-in-Ok-clause-says : goal.returns-in-Ok-clause-says
returns-in-Ok-clause-says g c =
    says_written c.sector_of-marked.result c.sector_of-marked.ensures.len (g.D.Disk.state c.args.disk.now) (g.D.Disk.state c.write.new.self) c.write.result
    c.requires.disk c.requires.room c.write.ensures c.args.clean c.sector_of-marked.ensures.says (ap is_err c.in-Ok.is) c.sync.result
    (g.D.Disk.state c.sync.new.self) c.sync.ensures

pub returns-in-Ok-clause-name : goal.returns-in-Ok-clause-name
returns-in-Ok-clause-name g c =
    name_synced c.sector_of-marked.result c.sector_of-marked.ensures.len (g.D.Disk.state c.args.disk.now) (g.D.Disk.state c.write.new.self) c.write.result
    c.requires.disk c.requires.room c.write.ensures c.sync.result (g.D.Disk.state c.sync.new.self) c.sync.ensures

pub returns-in-Err-clause-name : goal.returns-in-Err-clause-name
returns-in-Err-clause-name g c =
    name_written c.sector_of-marked.result c.sector_of-marked.ensures.len (g.D.Disk.state c.args.disk.now) (g.D.Disk.state c.write.new.self) c.write.result
    c.requires.disk c.requires.room c.write.ensures

pub returns-in-Err-clause-run : goal.returns-in-Err-clause-run
returns-in-Err-clause-run g c =
    run_stop 1 2 (g.D.Disk.state c.args.disk.now) (g.D.Disk.state c.write.new.self) (omega arith) (rw (ap is_err c.in-Err.is) at c.write.ensures.call)

pub returns-in-Ok-clause-touches : goal.returns-in-Ok-clause-touches
returns-in-Ok-clause-touches g c = touch_synced 1 c.sector_of-marked.result c.sector_of-marked.ensures.len (g.D.Disk.state c.args.disk.now)
    (g.D.Disk.state c.write.new.self) c.write.result c.requires.disk c.requires.room c.write.ensures c.sync.result (g.D.Disk.state c.sync.new.self) c.sync.ensures

pub returns-in-Err-clause-touches : goal.returns-in-Err-clause-touches
returns-in-Err-clause-touches g c = touch_written 1 c.sector_of-marked.result c.sector_of-marked.ensures.len (g.D.Disk.state c.args.disk.now)
    (g.D.Disk.state c.write.new.self) c.write.result c.requires.disk c.requires.room c.write.ensures
