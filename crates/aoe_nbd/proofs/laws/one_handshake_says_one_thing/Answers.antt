use Rattle.aoe_nbd.proofs.TalkLemmas.{one-talk}
use Rattle.aoe_nbd.proofs.laws.one_handshake_says_one_thing.Goals as goal

pub returns : goal.returns
returns c e p q s t p_is q_is same = one-talk e p q s t p_is q_is same
