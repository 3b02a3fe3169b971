use Rattle.aoe_io.proofs.StreamLemmas.{one-frame}
use Rattle.aoe_io.proofs.stream.stream_begins_with_one_frame.Goals as goal

pub returns : goal.returns
returns c f g rest other f_is g_is e = one-frame f g rest other f_is g_is e
