use Rattle.std.proofs.Common.{◌≤◌, length, arith}
use Rattle.aoe_io.proofs.BytesLemmas.{Gave-further, GaveSome-then}
use Rattle.aoe_io.proofs.stream.fill_from.Goals as goal

pub returns-in-Ok-fill_on-clause-gave : goal.returns-in-Ok-fill_on-clause-gave
returns-in-Ok-fill_on-clause-gave g c =
    let inside : c.in-Ok.n ≤ length c.read.new.buf = omega (arith, c.in-Ok.ensures.within, c.read.auto.buf) in
    let within : c.in-Ok-fill_on.n ≤ length c.fill_on.new.out = omega (arith, c.in-Ok-fill_on.ensures.within, c.fill_on.auto.out) in
    Gave-further _ _ _ c.read.new.buf c.fill_on.new.out c.in-Ok.n _ c.in-Ok-fill_on.n inside within c.in-Ok.ensures.gave c.in-Ok-fill_on.ensures.gave

pub returns-in-Err-fill_on-clause-taken : goal.returns-in-Err-fill_on-clause-taken
returns-in-Err-fill_on-clause-taken g c = GaveSome-then _ _ _ _ c.in-Ok.ensures.gave c.in-Err-fill_on.ensures.taken
