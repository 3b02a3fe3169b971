use Rattle.std.proofs.Common.{◌*◌, replicate}
use Rattle.std.proofs.lemmas.List.{length-replicate}
use Rattle.aoe_desk.proofs.AdmitLemmas.{cut_of}
use Rattle.aoe_desk.proofs.desk.Desk.read.Goals as goal

pub admit-requires-clause-cut : goal.admit-requires-clause-cut
admit-requires-clause-cut c =
    let len = 512 * c.args.span.count in
    rw (← c.self.view_is) (cut_of c.read-block.result c.args.span.at c.self.inside.max c.args.span.count (replicate len 0) (length-replicate len 0)
    c.read-block.ensures.cut)

pub returns-clause-taken : goal.returns-clause-taken
returns-clause-taken c within =
    let len = 512 * c.args.span.count in
    let taken = rw (← c.self.view_is) at c.admit.ensures.taken in
    let inside = rw (← c.self.view_is) at within in
    rw (← c.self.view_is) (taken (λ e. c.read-block.ensures.range.0 e inside) c.args.span.at (replicate len 0) (length-replicate len 0)
    c.read-block.ensures.cut)
