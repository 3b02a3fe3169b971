use Rattle.aoe_keep.specs.Found.{format_at}
use Rattle.aoe_upkeep.specs.Upkeep.{line}
use Rattle.aoe_upkeep.proofs.Causes.{refused-causes}
use Rattle.aoe_upkeep.proofs.Changing.{holds-of, shown-causes, shows-of}
use Rattle.aoe_upkeep.proofs.shown.show.Goals as goal

pub returns-in-Err-clause-causes : goal.returns-in-Err-clause-causes
returns-in-Err-clause-causes g c = refused-causes g.D.Disk.state c.args.disk c.in-Err.disk c.in-Err.refusal c.in-Err.ensures.refused

pub returns-clause-shows : goal.returns-clause-shows
returns-clause-shows g c =
    let k = c.in-Ok.keep in
    let holds = holds-of (g.D.Disk.state c.args.disk) (g.D.Disk.state k.disk) k.place k.is_closed k.lists c.in-Ok.ensures.lists c.in-Ok.ensures.finds
    c.in-Ok.ensures.formats c.in-Ok.ensures.stands in
    rw c.close.ensures
    (shows-of g.D.Disk.state c.say-ended.result (g.K.Sink.held c.args.sink.now) (g.K.Sink.held c.say-ended.new.sink) c.args.disk k.disk
    (format_at k.place) k.lists holds c.say-ended.ensures.says)

pub returns-clause-causes : goal.returns-clause-causes
returns-clause-causes g c =
    let k = c.in-Ok.keep in
    shown-causes g.D.Disk.state c.say-ended.result (g.K.Sink.held c.args.sink.now) (g.K.Sink.held c.say-ended.new.sink) (line (format_at k.place) k.lists)
    c.args.disk c.close.result (g.D.Disk.state k.disk) k.lists c.in-Ok.ensures.lists c.say-ended.ensures.says
