use Rattle.aoe_nbd.proofs.MessageLemmas.{one-past}
use Rattle.aoe_nbd.proofs.laws.one_stream_says_one_thing.Goals as goal

pub returns : goal.returns
returns c e p q s t p_is q_is same = one-past e p q s t p_is q_is same
