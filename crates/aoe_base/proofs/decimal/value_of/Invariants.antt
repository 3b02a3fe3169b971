use Rattle.aoe_base.proofs.Digits.{SoFar}
use Rattle.aoe_base.proofs.decimal.value_of.Given as goal

abbrev pub invariant-loop-digit : goal.invariant-loop-digit
invariant-loop-digit l = SoFar l.text l.value l.digit-index
