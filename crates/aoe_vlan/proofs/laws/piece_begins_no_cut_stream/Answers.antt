use Rattle.aoe_vlan.proofs.PieceLemmas.{piece-whole}
use Rattle.aoe_vlan.proofs.laws.piece_begins_no_cut_stream.Goals as goal

pub returns : goal.returns
returns c = λ ports p rest is. (λ e. cc, piece-whole ports p rest is)
