use Rattle.aoe_script.proofs.PairLemmas.{one_pair}
use Rattle.aoe_script.proofs.classes.pairs.Goals as goal

pub pairs-preserved : goal.pairs-preserved
pairs-preserved c =
    rw c.in_ok-put.ensures (one_pair c.args.text.now c.pairs.left.now c.pairs.bytes.items c.in-Some.byte c.pairs.invariant c.in-len2-up.len_at_least
    c.in-Some.ensures)
