use Rattle.std.proofs.Common.{arith, rules}
use Rattle.aoe_ata.proofs.PageLemmas.{pair-laid}
use Rattle.aoe_ata.proofs.identify.put_text.Goals as goal

pub pairs-preserved : goal.pairs-preserved
pairs-preserved c = pair-laid c.args.page.now c.pairs.page c.put.new.page c.args.text.now c.args.word c.pairs.pair (omega arith) (omega arith)
    (search rules) c.pairs.invariant c.put.ensures
