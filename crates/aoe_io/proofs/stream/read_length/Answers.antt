use Rattle.std.proofs.Common.{arith, subst, List, ℕ}
use Rattle.aoe_io.specs.Bytes.{Gave}
use Rattle.aoe_io.proofs.BytesLemmas.{prefix-is}
use Rattle.aoe_io.proofs.stream.read_length.Goals as goal

pub returns-clause-gave : goal.returns-clause-gave
returns-clause-gave g c =
    let P : List ℕ → Type 0 = λ bytes. Gave (g.S.Source.left c.args.source.now) (g.S.Source.left c.fill_from.new.source) bytes in
    let whole = c.in-Ok.ensures.within in
    let tested = c.in-Ok.field-0-test in
    let high = c.from.ensures in
    let low = c.from-2.ensures in
    subst P (prefix-is c.fill_from.new.out c.in-Ok.field-0 _ c.fill_from.auto.out (omega (arith, whole, tested.0.1, tested.1)) (omega (arith, high, low))
    (omega arith) (omega arith)) c.in-Ok.ensures.gave
