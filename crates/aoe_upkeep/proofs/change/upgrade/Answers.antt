use Rattle.std.proofs.Common.{◌≡◌, refl, sym}
use Rattle.std.proofs.lemmas.Bool.{cases_eq}
use Rattle.aoe_keep.specs.Found.{format_at}
use Rattle.aoe_upkeep.specs.Upkeep.{upgrading}
use Rattle.aoe_upkeep.proofs.Causes.{refused-causes}
use Rattle.aoe_upkeep.proofs.Changing.{causes-of, changes-of, holds-of}
use Rattle.aoe_upkeep.proofs.change.upgrade.Goals as goal

pub returns-in-Err-clause-causes : goal.returns-in-Err-clause-causes
returns-in-Err-clause-causes g c = refused-causes g.D.Disk.state c.args.disk c.in-Err.disk c.in-Err.refusal c.in-Err.ensures.refused

pub returns-clause-changes : goal.returns-clause-changes
returns-clause-changes g c =
    let k = c.in-Ok.keep in
    let holds = holds-of (g.D.Disk.state c.args.disk) (g.D.Disk.state k.disk) k.place k.is_closed k.lists c.in-Ok.ensures.lists c.in-Ok.ensures.finds
    c.in-Ok.ensures.formats c.in-Ok.ensures.stands in
    rw (c.ended_by.ensures, c.close.ensures)
    (changes-of g.D.Disk.state upgrading (format_at k.place ≡ 2) c.args.disk k c.upgrade-written.new.self holds (cases_eq (format_at k.place) 2)
    (λ still. (refl, sym still)) (λ not. refl) (λ not same f. not (sym f)) c.upgrade-written.result c.upgrade-written.ensures.same
    c.upgrade-written.ensures.finds (λ not. c.upgrade-written.ensures.offered) c.upgrade-written.ensures.others)

pub returns-clause-causes : goal.returns-clause-causes
returns-clause-causes g c =
    let k = c.in-Ok.keep in
    let holds = holds-of (g.D.Disk.state c.args.disk) (g.D.Disk.state k.disk) k.place k.is_closed k.lists c.in-Ok.ensures.lists c.in-Ok.ensures.finds
    c.in-Ok.ensures.formats c.in-Ok.ensures.stands in
    rw (c.ended_by.ensures, c.close.ensures)
    (causes-of g.D.Disk.state upgrading (format_at k.place ≡ 2) c.args.disk k c.upgrade-written.new.self holds (cases_eq (format_at k.place) 2)
    c.upgrade-written.result c.upgrade-written.ensures.same c.upgrade-written.ensures.run)
