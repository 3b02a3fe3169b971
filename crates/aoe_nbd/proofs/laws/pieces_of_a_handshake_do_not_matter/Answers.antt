use Rattle.aoe_nbd.proofs.TalkLemmas.{one-wait}
use Rattle.aoe_nbd.proofs.laws.pieces_of_a_handshake_do_not_matter.Goals as goal

pub returns : goal.returns
returns c e p q s t x y p_is q_is x_is y_is same = one-wait e p q s t x y p_is q_is x_is y_is same
