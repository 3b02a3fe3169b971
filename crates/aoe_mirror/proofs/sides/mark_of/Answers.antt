use Rattle.std.proofs.Common.{◌∙◌, Some, ap, sym, arith}
use Rattle.aoe_mirror.proofs.Surviving.{first_side_in, second_side_in}
use Rattle.aoe_mirror.proofs.sides.mark_of.Goals as goal

pub returns-then-side-eq1-clause-side : goal.returns-then-side-eq1-clause-side
returns-then-side-eq1-clause-side c = second_side_in 512 (omega arith) ∙ ap Some (sym c.if-side-eq1.true)

pub returns-clause-side : goal.returns-clause-side
returns-clause-side c = let le = c.requires in let other = c.if-side-eq1.false in first_side_in 512 (omega arith) ∙ ap Some (omega (arith, le, other))
