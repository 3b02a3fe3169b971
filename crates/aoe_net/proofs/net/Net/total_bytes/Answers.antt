use Rattle.std.proofs.Common.{sym}
use Rattle.aoe_net.proofs.StoreLemmas.{measures}
use Rattle.aoe_net.proofs.net.Net.total_bytes.Goals as goal

pub returns-clause-total : goal.returns-clause-total
returns-clause-total c =
    let is = measures c.self.inside.total c.self.inside.frames.items c.self.invariant in
    rw (← c.self.view_is) (sym is.sum)
