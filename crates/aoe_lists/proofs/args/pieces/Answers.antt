use Rattle.std.proofs.Common.{◌≤◌, ◌/◌, length, take, mul_comm, ap, ◌∙◌}
use Rattle.std.proofs.Math.Nat.{le-div_iff_mul-le}
use Rattle.aoe_lists.proofs.PieceLemmas.{take-first_chunks}
use Rattle.aoe_lists.proofs.args.pieces.Goals as goal

pub returns-clause-value : goal.returns-clause-value
returns-clause-value g c =
    let enough : c.args.count ≤ length c.args.bytes.now / g.row.N =
    (le-div_iff_mul-le c.requires.some).1 (rw (mul_comm c.args.count g.row.N) c.requires.there) in
    ap (take c.args.count) c.as_chunks.ensures.front ∙ take-first_chunks g.row.N (length c.args.bytes.now / g.row.N) c.args.count c.args.bytes.now enough
