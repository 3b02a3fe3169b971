use Rattle.std.proofs.Common.{◌∙◌}
use Rattle.aoe_io.proofs.BytesLemmas.{Took-further, count-within}
use Rattle.aoe_io.proofs.stream.give_on.Goals as goal

pub pieces-preserved : goal.pieces-preserved
pieces-preserved g c = (
  count-within c.args.bytes.now c.pieces.done c.in-Ok.n c.pieces.invariant.0 c.in-Ok.ensures.within,
  c.in-Ok.ensures.no_fault ∙ c.pieces.invariant.1,
  Took-further _ _ _ c.args.bytes.now c.pieces.done c.in-Ok.n c.pieces.invariant.2 c.in-Ok.ensures.took,
)
