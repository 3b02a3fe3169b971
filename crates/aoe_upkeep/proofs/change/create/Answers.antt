use Rattle.std.proofs.Common.{refl, sym}
use Rattle.aoe_keep.specs.Found.{format_at}
use Rattle.aoe_upkeep.specs.Upkeep.{IsNew, creating}
use Rattle.aoe_upkeep.proofs.Causes.{refused-causes}
use Rattle.aoe_upkeep.proofs.Changing.{causes-of, changes-of, decide-new, holds-of}
use Rattle.aoe_upkeep.proofs.change.create.Goals as goal

pub returns-in-Err-clause-causes : goal.returns-in-Err-clause-causes
returns-in-Err-clause-causes g c = refused-causes g.D.Disk.state c.args.disk c.in-Err.disk c.in-Err.refusal c.in-Err.ensures.refused

pub returns-clause-changes : goal.returns-clause-changes
returns-clause-changes g c =
    let k = c.in-Ok.keep in
    let holds = holds-of (g.D.Disk.state c.args.disk) (g.D.Disk.state k.disk) k.place k.is_closed k.lists c.in-Ok.ensures.lists c.in-Ok.ensures.finds
    c.in-Ok.ensures.formats c.in-Ok.ensures.stands in
    rw (c.ended_by.ensures, c.close.ensures)
    (changes-of g.D.Disk.state creating (IsNew k) c.args.disk k c.make_empty-written.new.keep holds (decide-new k.lists (format_at k.place))
    (λ new. (sym new.0, sym new.1)) (λ not. refl) (λ not same f. not (sym same, sym f)) c.make_empty-written.result c.make_empty-written.ensures.same
    c.make_empty-written.ensures.finds c.make_empty-written.ensures.offered c.make_empty-written.ensures.others)

pub returns-clause-causes : goal.returns-clause-causes
returns-clause-causes g c =
    let k = c.in-Ok.keep in
    let holds = holds-of (g.D.Disk.state c.args.disk) (g.D.Disk.state k.disk) k.place k.is_closed k.lists c.in-Ok.ensures.lists c.in-Ok.ensures.finds
    c.in-Ok.ensures.formats c.in-Ok.ensures.stands in
    rw (c.ended_by.ensures, c.close.ensures)
    (causes-of g.D.Disk.state creating (IsNew k) c.args.disk k c.make_empty-written.new.keep holds (decide-new k.lists (format_at k.place))
    c.make_empty-written.result c.make_empty-written.ensures.same c.make_empty-written.ensures.run)
