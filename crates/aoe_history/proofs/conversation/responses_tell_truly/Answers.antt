use Rattle.aoe_history.proofs.replies.ConversationLemmas.{response-tells}
use Rattle.aoe_history.proofs.conversation.responses_tell_truly.Goals as goal

pub returns : goal.returns
returns c = response-tells
