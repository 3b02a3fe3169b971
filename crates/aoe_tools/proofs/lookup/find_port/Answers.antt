use Rattle.std.proofs.Common.{◌≡◌, ◌∙◌, ap, drop}
use Rattle.std.specs.Prelude.{Ok}
use Rattle.aoe_tools.proofs.AskLemmas.{asked-as, behind}
use Rattle.aoe_tools.specs.LookUp.{config_frame, max_of}
use Rattle.aoe_tools.proofs.lookup.find_port.Goals as goal

pub returns-in-Ok-clause-asks : goal.returns-in-Ok-clause-asks
returns-in-Ok-clause-asks g c =
    let args = behind c.deref.ensures.0 in
    let frame : c.config_request.new.out.items ≡ config_frame c.args.ask_by.now c.args.id c.args.first =
    rw c.question-question.ensures at c.config_request.ensures in (
      Ok record { reply = c.in-Ok.reply; args = drop 24 c.ask.new.frame.items },
      asked-as c.question-question.ensures frame c.turns_of.ensures c.in-Ok.ensures.asks,
      ap (λ n. Ok (c.in-Ok.reply.source, n)) (c.max_of.ensures.value ∙ ap (max_of c.args.most) args),
    )
