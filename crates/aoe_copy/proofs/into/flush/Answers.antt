use Rattle.std.proofs.Common.{arith}
use Rattle.aoe_copy.proofs.FlushLemmas.{copies-tool}
use Rattle.aoe_copy.proofs.into.flush.Goals as goal

pub as_tool-requires : goal.as_tool-requires
as_tool-requires g c = λ e is.
    copies-tool c.put_front.result c.args.terms.now c.args.id _ _ c.put_front.ensures.run
    (λ s. let rose = c.put_front.ensures.source.cause s (omega arith) in absurd (omega (arith, rose))) e is

pub returns-clause-run : goal.returns-clause-run
returns-clause-run g c = (c.put_front.result, _, c.put_front.ensures.run, c.as_tool.ensures)
