use Rattle.aoe_nbd_serve.proofs.TalkLemmas.{stays-export, turns-same}
use Rattle.aoe_nbd_serve.proofs.conversation.Conversation.converse.Goals as goal

pub returns-in-Err-clause-export : goal.returns-in-Err-clause-export
returns-in-Err-clause-export g c = stays-export _ _ c.talk.result c.args.now.0 c.args.self.now _ _ _ _ c.move_limit.ensures c.talk.ensures.turns

pub returns-in-Err-clause-last : goal.returns-in-Err-clause-last
returns-in-Err-clause-last g c = (turns-same _ _ c.talk.result _ _ _ _ c.talk.ensures.turns).last

pub returns-in-Err-clause-total : goal.returns-in-Err-clause-total
returns-in-Err-clause-total g c = (turns-same _ _ c.talk.result _ _ _ _ c.talk.ensures.turns).total

pub returns-in-Err-clause-max : goal.returns-in-Err-clause-max
returns-in-Err-clause-max g c = (turns-same _ _ c.talk.result _ _ _ _ c.talk.ensures.turns).max

pub returns-in_default-clause-export : goal.returns-in_default-clause-export
returns-in_default-clause-export g c = stays-export _ _ c.talk.result c.args.now.0 c.args.self.now _ _ _ _ c.move_limit.ensures c.talk.ensures.turns

pub returns-in_default-clause-last : goal.returns-in_default-clause-last
returns-in_default-clause-last g c = (turns-same _ _ c.talk.result _ _ _ _ c.talk.ensures.turns).last

pub returns-in_default-clause-total : goal.returns-in_default-clause-total
returns-in_default-clause-total g c = (turns-same _ _ c.talk.result _ _ _ _ c.talk.ensures.turns).total

pub returns-in_default-clause-max : goal.returns-in_default-clause-max
returns-in_default-clause-max g c = (turns-same _ _ c.talk.result _ _ _ _ c.talk.ensures.turns).max

pub returns-clause-export : goal.returns-clause-export
returns-clause-export g c = stays-export _ _ c.talk.result c.args.now.0 c.args.self.now _ _ _ _ c.move_limit.ensures c.talk.ensures.turns

pub returns-clause-last : goal.returns-clause-last
returns-clause-last g c = (turns-same _ _ c.talk.result _ _ _ _ c.talk.ensures.turns).last

pub returns-clause-total : goal.returns-clause-total
returns-clause-total g c = (turns-same _ _ c.talk.result _ _ _ _ c.talk.ensures.turns).total

pub returns-clause-max : goal.returns-clause-max
returns-clause-max g c = (turns-same _ _ c.talk.result _ _ _ _ c.talk.ensures.turns).max
