use Rattle.std.proofs.Common.{[], arith, refl}
use Rattle.aoe_desk.proofs.AdmitLemmas.{cut_of}
use Rattle.aoe_desk.proofs.desk.Desk.flush.Goals as goal

pub admit-requires-clause-cut : goal.admit-requires-clause-cut
admit-requires-clause-cut c =
    let cut = rw (c.from_vec-nothing.ensures, c.new.ensures.items) at c.write-block.ensures.cut in
    rw (← c.self.view_is) (cut_of c.write-block.result 0 c.self.inside.max 0 [] refl cut)

pub returns-clause-taken : goal.returns-clause-taken
returns-clause-taken c =
    let cut = rw (c.from_vec-nothing.ensures, c.new.ensures.items) at c.write-block.ensures.cut in
    let range = rw (c.from_vec-nothing.ensures, c.new.ensures.items) at c.write-block.ensures.range in
    let taken = rw (← c.self.view_is) at c.admit.ensures.taken in
    rw (← c.self.view_is) (taken (λ e. range.0 e (omega arith)) 0 [] refl cut)
