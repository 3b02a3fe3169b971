use Rattle.std.proofs.Common.{sym}
use Rattle.aoe_block.proofs.PartLemmas.{laid-parts_of}
use Rattle.aoe_block.proofs.block.Block.into_bytes.Goals as goal

pub returns : goal.returns
returns c =
    let b = c.self.inside in
    rw (← c.self.view_is) (sym (laid-parts_of b.max b.at b.count b.stages.items b.bytes c.self.invariant.parted.size c.self.invariant.parted.enough).0)
