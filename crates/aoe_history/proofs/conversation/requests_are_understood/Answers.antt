use Rattle.aoe_history.proofs.replies.RequestLemmas.{request-asks, request-writes}
use Rattle.aoe_history.proofs.conversation.requests_are_understood.Goals as goal

pub returns-clause-answer : goal.returns-clause-answer
returns-clause-answer c = request-asks

pub returns-clause-data : goal.returns-clause-data
returns-clause-data c = request-writes
