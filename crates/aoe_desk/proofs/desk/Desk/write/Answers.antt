use Rattle.std.proofs.Common.{◌/◌, length}
use Rattle.aoe_desk.proofs.AdmitLemmas.{cut_of, whole_sectors}
use Rattle.aoe_desk.proofs.desk.Desk.write.Goals as goal

pub admit-requires-clause-cut : goal.admit-requires-clause-cut
admit-requires-clause-cut c =
    let size = whole_sectors (length c.args.bytes) c.requires.whole in
    rw (c.bytes.ensures, ← c.self.view_is) (cut_of c.write-block.result c.args.at c.self.inside.max (length c.args.bytes / 512) c.args.bytes size
    c.write-block.ensures.cut)

pub returns-clause-taken : goal.returns-clause-taken
returns-clause-taken c within =
    let size = whole_sectors (length c.args.bytes) c.requires.whole in
    let taken = rw (c.bytes.ensures, ← c.self.view_is) at c.admit.ensures.taken in
    let inside = rw (← c.self.view_is) at within in
    rw (← c.self.view_is) (taken (λ e. c.write-block.ensures.range.0 e inside) c.args.at c.args.bytes size c.write-block.ensures.cut)
