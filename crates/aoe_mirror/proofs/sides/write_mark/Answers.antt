use Rattle.std.proofs.Common.{ap, is_err}
use Rattle.aoe_mirror.proofs.Cleaning.{word_synced, word_written}
use Rattle.aoe_mirror.proofs.Surviving.{mark_written_if}
use Rattle.aoe_mirror.proofs.Naming.{touch_synced, touch_written}
use Rattle.aoe_mirror.proofs.sides.write_mark.Goals as goal

pub returns-in-Ok-clause-named : goal.returns-in-Ok-clause-named
returns-in-Ok-clause-named g c = mark_written_if (g.D.Disk.state c.args.disk.now) (g.D.Disk.state c.write.new.self) (g.D.Disk.state c.sync.new.self)
    c.write.result c.sync.result c.mark_of-marked.result c.args.side c.requires.disk c.requires.room c.mark_of-marked.ensures.len
    c.mark_of-marked.ensures.side c.write.ensures (ap is_err c.in-Ok.is) c.sync.ensures

pub returns-in-Ok-clause-word : goal.returns-in-Ok-clause-word
returns-in-Ok-clause-word g c =
    word_synced c.mark_of-marked.result c.mark_of-marked.ensures.len (g.D.Disk.state c.args.disk.now) (g.D.Disk.state c.write.new.self) c.write.result
    c.requires.disk c.requires.room c.write.ensures c.sync.result (g.D.Disk.state c.sync.new.self) c.sync.ensures

pub returns-in-Err-clause-word : goal.returns-in-Err-clause-word
returns-in-Err-clause-word g c =
    word_written c.mark_of-marked.result c.mark_of-marked.ensures.len (g.D.Disk.state c.args.disk.now) (g.D.Disk.state c.write.new.self) c.write.result
    c.requires.disk c.requires.room c.write.ensures

pub returns-in-Ok-clause-touches : goal.returns-in-Ok-clause-touches
returns-in-Ok-clause-touches g c = touch_synced 0 c.mark_of-marked.result c.mark_of-marked.ensures.len (g.D.Disk.state c.args.disk.now)
    (g.D.Disk.state c.write.new.self) c.write.result c.requires.disk c.requires.room c.write.ensures c.sync.result (g.D.Disk.state c.sync.new.self) c.sync.ensures

pub returns-in-Err-clause-touches : goal.returns-in-Err-clause-touches
returns-in-Err-clause-touches g c = touch_written 0 c.mark_of-marked.result c.mark_of-marked.ensures.len (g.D.Disk.state c.args.disk.now)
    (g.D.Disk.state c.write.new.self) c.write.result c.requires.disk c.requires.room c.write.ensures
