use Rattle.aoe_base.specs.Names.{pair_text}
use Rattle.aoe_base.proofs.JoinLemmas.{joined}
use Rattle.aoe_base.proofs.text.put_pairs.Goals as goal

pub pairs-preserved : goal.pairs-preserved
pairs-preserved c =
    joined 58 pair_text c.args.bytes.now c.pairs.i _ c.args.out.now.items c.pairs.out.items c.put_between.new.out.items c.put_pair.new.out.items
    c.pairs-test.true
    c.pairs.invariant c.in_ok-put_between.ensures c.in_ok-put_pair.ensures
