use Rattle.aoe_nbd_serve.proofs.TalkLemmas.{asked-on}
use Rattle.aoe_nbd_serve.proofs.conversation.Conversation.take_request.Goals as goal

pub returns : goal.returns
returns c = record {
  leads = asked-on _ c.args.self.now c.take-event.result c.in-Transmission.transmission c.take-event.new.transmission c.take-event.new.input c.take-event.new.self.payload.items
      c.note_asked.new.phase c.args.desk.now c.take-event.new.desk c.self.view_is c.in-Transmission.is c.take-event.ensures.takes c.take-event.ensures.more c.note_asked.ensures;
}
