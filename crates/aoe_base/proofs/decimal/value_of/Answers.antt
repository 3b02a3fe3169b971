use Rattle.std.proofs.Common.{arith, sym}
use Rattle.aoe_base.proofs.Digits.{goes_on}
use Rattle.aoe_base.proofs.decimal.value_of.Goals as goal

pub loop-digit-preserved : goal.loop-digit-preserved
loop-digit-preserved c =
    let is = c.if-not-is_ascii_digit.ensures in
    goes_on c.args.text.now c.loop-digit.value c.loop-digit.digit-index c.from.result
    c.loop-digit-test.true (sym is.value) c.from.ensures (omega (arith, is.bound, c.from.ensures)) c.loop-digit.invariant
