use Rattle.std.proofs.Common.{◌≤◌, ◌*◌, arith}
use Rattle.std.proofs.Math.Nat.{mul-le-mul_left}
use Rattle.aoe_block.proofs.steps.part_span.Goals as goal

pub overflow_cast-before : goal.overflow_cast-before
overflow_cast-before c =
    let h : c.args.k * 1 ≤ c.args.k * c.args.max = mul-le-mul_left c.args.k c.requires.some in
    omega arith
