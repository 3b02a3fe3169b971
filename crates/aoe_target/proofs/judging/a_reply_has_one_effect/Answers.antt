use Rattle.aoe_target.proofs.OneReply.{allows-one}
use Rattle.aoe_target.proofs.judging.a_reply_has_one_effect.Goals as goal

pub returns : goal.returns
returns c station k f v e d reply one two = allows-one e d reply v station k f one two
