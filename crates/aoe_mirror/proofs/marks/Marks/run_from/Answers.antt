use Rattle.std.proofs.Common.{◌+◌, false, length, ap, arith}
use Rattle.std.proofs.lemmas.List.{get_or_past}
use Rattle.aoe_mirror.proofs.Bits.{length-bits_of}
use Rattle.aoe_mirror.proofs.marks.Marks.run_from.Goals as goal

pub overflow_add-at : goal.overflow_add-at
overflow_add-at c = omega (arith, ap length c.self.view_is, length-bits_of c.self.inside.words.items c.self.inside.len, c.self.invariant.bound)

pub contains-requires : goal.contains-requires
contains-requires c = rw (← c.self.view_is) (omega (arith, length-bits_of c.self.inside.words.items c.self.inside.len))

pub returns-else-at-n-clause-longest : goal.returns-else-at-n-clause-longest
returns-else-at-n-clause-longest c = λ _. get_or_past c.args.self.now (c.args.at + c.run.n) false
    (omega (arith, ap length c.self.view_is, length-bits_of c.self.inside.words.items c.self.inside.len))
