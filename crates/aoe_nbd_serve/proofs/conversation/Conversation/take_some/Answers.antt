use Rattle.aoe_nbd_serve.proofs.TalkLemmas.{on-same, on-then, size-stays}
use Rattle.aoe_nbd_serve.proofs.conversation.Conversation.take_some.Goals as goal

pub take_next-requires : goal.take_next-requires
take_next-requires c = size-stays _ _ _ _ (on-same _ _ _ _ c.messages.invariant.leads) c.requires

pub returns-then-not-take_next : goal.returns-then-not-take_next
returns-then-not-take_next c = record { leads = on-then _ _ _ _ _ _ c.messages.invariant.leads c.take_next.ensures.leads }

pub messages-preserved : goal.messages-preserved
messages-preserved c = record { leads = on-then _ _ _ _ _ _ c.messages.invariant.leads c.take_next.ensures.leads }
