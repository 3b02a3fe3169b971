use Rattle.aoe_nbd.proofs.ReplyLemmas.{one-list}
use Rattle.aoe_nbd.proofs.laws.one_stream_has_one_list_of_replies.Goals as goal

pub returns : goal.returns
returns c asked rs ss all each e = one-list asked rs ss all each e
