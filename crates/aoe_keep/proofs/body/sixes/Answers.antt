use Rattle.std.proofs.Common.{◌≤◌, ◌/◌, arith, length, take, ap, ◌∙◌}
use Rattle.aoe_keep.proofs.Uniqueness.{take-first_chunks}
use Rattle.aoe_keep.proofs.body.sixes.Goals as goal

pub returns-clause-value : goal.returns-clause-value
returns-clause-value c =
    let enough : c.args.count ≤ length c.args.bytes.now / 6 = omega (arith, c.requires) in
    ap (take c.args.count) c.as_chunks.ensures.front ∙ take-first_chunks (length c.args.bytes.now / 6) c.args.count c.args.bytes.now enough
