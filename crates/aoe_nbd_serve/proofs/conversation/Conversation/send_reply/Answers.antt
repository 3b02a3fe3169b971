use Rattle.std.proofs.Common.{◌≤◌, length, arith}
use Rattle.aoe_nbd_serve.proofs.TalkLemmas.{reply-ended, reply-sent}
use Rattle.aoe_nbd_serve.specs.Conversations.{bytes_of}
use Rattle.aoe_nbd_serve.proofs.conversation.Conversation.send_reply.Goals as goal

pub returns-then-self-len_of-clause-leads : goal.returns-then-self-len_of-clause-leads
returns-then-self-len_of-clause-leads g c =
    reply-sent _ _ c.send_piece-moved.result _ c.args.self.now c.in-Some.reply.now c.send_piece-moved.new.sent c.args.desk.now c.self.view_is c.in-Some.ensures.some
    c.requires.behind c.send_piece-moved.ensures.sends

pub returns-clause-leads : goal.returns-clause-leads
returns-clause-leads g c =
    let whole : length (bytes_of c.in-Some.reply.now) ≤ c.send_piece-moved.new.sent = omega (arith, c.if-self-len_of.false, c.len_of.ensures) in
    reply-ended _ _ c.send_piece-moved.result _ c.args.self.now c.in-Some.reply.now c.send_piece-moved.new.sent c.args.desk.now c.reply_written.new.self c.self.view_is
    c.in-Some.ensures.some c.requires.behind c.send_piece-moved.ensures.sends whole c.reply_written.ensures
