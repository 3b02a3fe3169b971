use Rattle.std.proofs.Common.{arith, refl, ◌∷◌, ◌∙◌, ap, Ok}
use Rattle.std.specs.Int.{w16, to_be_bytes}
use Rattle.aoe_io.proofs.BytesLemmas.{GaveSome-then}
use Rattle.aoe_vlan.proofs.PieceLemmas.{cut-frame}
use Rattle.aoe_vlan.proofs.over_stream.read_piece.Goals as goal

pub returns-in-Ok-false-clause-stops : goal.returns-in-Ok-false-clause-stops
returns-in-Ok-false-clause-stops g c =
    let front = c.in-Ok.front in
    let short = c.fill_buffer.ensures.short (c.in-Ok-false.is ∙ ap Ok c.in-Ok-false.field-0-test) in (
      refl,
      cut-frame c.args.ports _ _ front.port front.length (omega (arith, c.in-Ok.ensures.short)) c.in-Ok.ensures.gave short,
      GaveSome-then _ _ _ (front.port ∷ to_be_bytes w16 front.length) c.in-Ok.ensures.gave c.fill_buffer.ensures.taken,
    )

pub returns-in-Err-fill_buffer-clause-stops : goal.returns-in-Err-fill_buffer-clause-stops
returns-in-Err-fill_buffer-clause-stops g c =
    let front = c.in-Ok.front in
    GaveSome-then _ _ _ (front.port ∷ to_be_bytes w16 front.length) c.in-Ok.ensures.gave c.fill_buffer.ensures.taken
