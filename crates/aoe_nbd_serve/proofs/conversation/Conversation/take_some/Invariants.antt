use Rattle.aoe_nbd_serve.specs.Conversations.{LeadsOn}
use Rattle.aoe_nbd_serve.proofs.conversation.Conversation.take_some.Given as goal

abbrev pub invariant-messages : goal.invariant-messages
invariant-messages l = record { leads : LeadsOn l.fn.self l.fn.desk l.self l.desk }
