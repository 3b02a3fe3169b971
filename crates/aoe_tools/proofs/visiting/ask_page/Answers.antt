use Rattle.std.proofs.Common.{◌∙◌, ap, refl}
use Rattle.aoe_tools.proofs.AskLemmas.{behind}
use Rattle.aoe_tools.proofs.OneLemmas.{heard-none, heard-one}
use Rattle.aoe_tools.proofs.VisitLemmas.{page-failed, page-heard}
use Rattle.aoe_tools.specs.Page.{known_by}
use Rattle.aoe_tools.proofs.visiting.ask_page.Goals as goal

pub known_by-requires : goal.known_by-requires
known_by-requires g c = rw (behind c.deref.ensures.0) (rw c.in-Ok-Some.field-0-is at c.in-Ok-Some.ensures.here).1

pub returns-in-Ok-Some-clause-run : goal.returns-in-Ok-Some-clause-run
returns-in-Ok-Some-clause-run g c =
    page-heard (heard-one (rw (c.in-Ok-Some.field-0-is, c.new-wait.ensures) at c.in-Ok-Some.ensures.listens))
    (c.known_by.ensures ∙ ap (known_by c.in-Ok-Some.reply.answer) (behind c.deref.ensures.0))

pub returns-in-Ok-None-clause-run : goal.returns-in-Ok-None-clause-run
returns-in-Ok-None-clause-run g c = page-heard (heard-none (rw (c.in-Ok-None.field-0-is, c.new-wait.ensures) at c.in-Ok-None.ensures.listens)) refl

pub returns-in-Err-clause-run : goal.returns-in-Err-clause-run
returns-in-Err-clause-run g c = page-failed (rw c.new-wait.ensures at c.in-Err.ensures.listens)
