use Rattle.std.proofs.Common.{rules, arith}
use Rattle.std.proofs.lemmas.List.{take_min}
use Rattle.aoe_system.proofs.HoleLemmas.{more_zeros, other_sector}
use Rattle.aoe_system.proofs.holes.front_of.Goals as goal

pub sectors-preserved : goal.sectors-preserved
sectors-preserved c = record {
  within = search rules;
  some = search rules;
  hole = λ h. more_zeros _ c.sectors.len c.min-next.result (omega (arith, c.min-next.ensures, c.sectors-test.true)) (c.sectors.invariant.hole h) (search rules);
}

pub returns-after-sectors-clause-kind : goal.returns-after-sectors-clause-kind
returns-after-sectors-clause-kind c = rw (c.are_zeros-is_hole.ensures, c.min-len.ensures, take_min 512 c.args.piece.now) (search rules)

pub returns-then-are_zeros-is_hole-clause-kind : goal.returns-then-are_zeros-is_hole-clause-kind
returns-then-are_zeros-is_hole-clause-kind c = rw (c.are_zeros-is_hole.ensures, c.min-len.ensures, take_min 512 c.args.piece.now) (search rules)

pub returns-then-are_zeros-is_hole-clause-end : goal.returns-then-are_zeros-is_hole-clause-end
returns-then-are_zeros-is_hole-clause-end c = λ _. other_sector _ c.sectors.len c.min-next.result _ c.are_zeros.result (c.sectors-test.true) c.min-next.ensures c.are_zeros.ensures c.if-are_zeros-is_hole.true
