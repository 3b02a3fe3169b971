use Rattle.std.proofs.Common.{◌≤◌, ◌∙◌, length, arith}
use Rattle.aoe_io.proofs.BytesLemmas.{Gave-further, count-within-middle}
use Rattle.aoe_io.proofs.stream.fill_on.Goals as goal

pub pieces-preserved : goal.pieces-preserved
pieces-preserved g c =
    let within : c.in-Ok.n ≤ length c.read.new.buf = omega (arith, c.in-Ok.ensures.within, c.read.auto.buf) in (
      count-within-middle c.pieces.out c.read.new.buf c.pieces.done c.in-Ok.n c.pieces.invariant.0 c.read.auto.buf within,
      c.in-Ok.ensures.no_fault ∙ c.pieces.invariant.1,
      Gave-further _ _ _ c.pieces.out c.read.new.buf c.pieces.done _ c.in-Ok.n c.pieces.invariant.0 within c.pieces.invariant.2 c.in-Ok.ensures.gave,
    )
