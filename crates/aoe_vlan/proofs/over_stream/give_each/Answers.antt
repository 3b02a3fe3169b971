use Rattle.std.proofs.Common.{◌∙◌}
use Rattle.aoe_vlan.proofs.PieceLemmas.{fails-at}
use Rattle.aoe_vlan.proofs.over_stream.give_each.Goals as goal

pub returns-in-Err-clause-some : goal.returns-in-Err-clause-some
returns-in-Err-clause-some g c =
    fails-at c.args.switch.now.ports c.args.vid c.args.frame.now c.args.ports.now c.ports.q-index _ _ _ c.as_slice.result.now c.ports-test.true
    (c.as_slice.ensures.value ∙ c.put_piece.ensures) c.ports.invariant.0 c.in-Err.ensures.some
