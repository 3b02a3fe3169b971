use Rattle.aoe_keep.specs.Found.{format_at}
use Rattle.aoe_upkeep.specs.Upkeep.{marking}
use Rattle.aoe_upkeep.proofs.Causes.{refused-causes}
use Rattle.aoe_upkeep.proofs.Changing.{holds-of, loud-mark, put-causes, put-changes, quiet-mark}
use Rattle.aoe_upkeep.proofs.change.mark.Goals as goal

pub returns-in-Err-clause-causes : goal.returns-in-Err-clause-causes
returns-in-Err-clause-causes g c = refused-causes g.D.Disk.state c.args.disk c.in-Err.disk c.in-Err.refusal c.in-Err.ensures.refused

pub returns-clause-changes : goal.returns-clause-changes
returns-clause-changes g c =
    let k = c.in-Ok.keep in
    let now = c.args.read_only in
    let holds = holds-of (g.D.Disk.state c.args.disk) (g.D.Disk.state k.disk) k.place k.is_closed k.lists c.in-Ok.ensures.lists c.in-Ok.ensures.finds
    c.in-Ok.ensures.formats c.in-Ok.ensures.stands in
    rw (c.ended_by.ensures, c.close.ensures)
    (put-changes g.D.Disk.state (marking now) c.args.disk k c.put-written.new.keep holds c.marked-next.result (rw c.lists.ensures at c.marked-next.ensures)
    c.put-written.result c.put-written.ensures.same (quiet-mark now (format_at k.place) k.lists) (loud-mark now (format_at k.place) k.lists)
    c.put-written.ensures.finds c.put-written.ensures.offered c.put-written.ensures.others)

pub returns-clause-causes : goal.returns-clause-causes
returns-clause-causes g c =
    let k = c.in-Ok.keep in
    let now = c.args.read_only in
    let holds = holds-of (g.D.Disk.state c.args.disk) (g.D.Disk.state k.disk) k.place k.is_closed k.lists c.in-Ok.ensures.lists c.in-Ok.ensures.finds
    c.in-Ok.ensures.formats c.in-Ok.ensures.stands in
    rw (c.ended_by.ensures, c.close.ensures)
    (put-causes g.D.Disk.state (marking now) c.args.disk k c.put-written.new.keep holds c.marked-next.result (rw c.lists.ensures at c.marked-next.ensures)
    c.put-written.result c.put-written.ensures.same c.put-written.ensures.run)
