use Rattle.aoe_io.proofs.BytesLemmas.{GaveSome-then}
use Rattle.aoe_io.proofs.input.read_pieces.Goals as goal

pub returns-in-Err-clause-unread : goal.returns-in-Err-clause-unread
returns-in-Err-clause-unread g c = GaveSome-then _ _ _ c.pieces.input.items c.pieces.invariant.so_far.gave c.in-Err.ensures.unread
