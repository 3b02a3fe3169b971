use Rattle.std.proofs.Common.{arith}
use Rattle.aoe_mirror.specs.Marks.{bits_of}
use Rattle.aoe_mirror.proofs.Bits.{count_le}
use Rattle.aoe_mirror.proofs.marks.Marks.count.Goals as goal

pub returns-clause-within : goal.returns-clause-within
returns-clause-within c =
    rw (← c.self.view_is) (omega (arith, c.self.invariant.count, count_le (bits_of c.self.inside.words.items c.self.inside.len)))
