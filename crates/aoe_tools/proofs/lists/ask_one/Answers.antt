use Rattle.std.proofs.Common.{◌≡◌, ◌∙◌, ap, drop}
use Rattle.std.specs.Prelude.{Err, Ok}
use Rattle.aoe_tools.proofs.AskLemmas.{asks-one, behind}
use Rattle.aoe_tools.specs.One.{args_of}
use Rattle.aoe_tools.proofs.lists.ask_one.Goals as goal

pub args_of-requires : goal.args_of-requires
args_of-requires g c = rw (behind c.deref.ensures.0) c.in-Ok.ensures.here.1

pub returns-in-Ok-clause-run : goal.returns-in-Ok-clause-run
returns-in-Ok-clause-run g c =
    let is : c.args_of.result ≡ args_of (record { reply = c.in-Ok.reply; args = drop 24 c.ask.new.frame.items }) =
    c.args_of.ensures ∙ ap (λ l. args_of (record { reply = c.in-Ok.reply; args = l })) (behind c.deref.ensures.0) in
    rw is (asks-one (Ok record { reply = c.in-Ok.reply; args = drop 24 c.ask.new.frame.items }) c.in-Ok.ensures.asks)

pub returns-in-Err-clause-run : goal.returns-in-Err-clause-run
returns-in-Err-clause-run g c = asks-one (Err c.in-Err.refusal) c.in-Err.ensures.asks
