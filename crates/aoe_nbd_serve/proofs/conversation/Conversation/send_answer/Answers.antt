use Rattle.aoe_nbd_serve.proofs.TalkLemmas.{answer-sent}
use Rattle.aoe_nbd_serve.proofs.conversation.Conversation.send_answer.Goals as goal

pub returns-clause-leads : goal.returns-clause-leads
returns-clause-leads g c = λ d. answer-sent _ _ c.send_to.result _ c.args.self.now c.send_to.new.self d c.self.view_is c.send_to.ensures.sends
