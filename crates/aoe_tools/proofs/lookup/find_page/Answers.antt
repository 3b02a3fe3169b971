use Rattle.std.proofs.Common.{◌≡◌, refl, ◌∙◌, ap, drop}
use Rattle.std.specs.Prelude.{Ok, unwrap_or}
use Rattle.aoe_tools.proofs.AskLemmas.{asked-as, behind}
use Rattle.aoe_tools.specs.LookUp.{page_frame, total_of}
use Rattle.aoe_tools.specs.Page.{flush_in}
use Rattle.aoe_tools.proofs.lookup.find_page.Goals as goal

pub total_in-requires : goal.total_in-requires
total_in-requires g c = rw (behind c.deref.ensures.0) c.in-Ok.ensures.here.1

pub flush_in-requires : goal.flush_in-requires
flush_in-requires g c = rw (behind c.deref.ensures.0) c.in-Ok.ensures.here.1

pub returns-in-Ok-clause-asks : goal.returns-in-Ok-clause-asks
returns-in-Ok-clause-asks g c =
    let args = behind c.deref.ensures.0 in
    let frame : c.write_request.new.out.items ≡ page_frame c.args.ask_by.now c.args.id c.args.first c.args.remote =
    rw c.question-question.ensures at c.write_request.ensures.bytes in
    let total : c.unwrap_or-total.result ≡ total_of c.in-Ok.reply.answer (drop 24 c.ask.new.frame.items) =
    c.unwrap_or-total.ensures ∙ ap (λ o. unwrap_or o 0) c.total_in.ensures.value ∙ ap (total_of c.in-Ok.reply.answer) args in
    let flush : c.flush_in.result ≡ flush_in c.in-Ok.reply.answer (drop 24 c.ask.new.frame.items) =
    c.flush_in.ensures ∙ ap (flush_in c.in-Ok.reply.answer) args in (
      Ok record { reply = c.in-Ok.reply; args = drop 24 c.ask.new.frame.items },
      asked-as c.question-question.ensures frame c.turns_of.ensures c.in-Ok.ensures.asks,
      rw (total, flush) refl,
    )
