use Rattle.std.proofs.Common.{sym, ◌∙◌, inr}
use Rattle.aoe_copy.proofs.PutStepLemmas.{asked-then, ended-as, flushes-more, goes-on, may-be-flushed}
use Rattle.aoe_copy.proofs.putting.Putting.ask_all.Goals as goal

pub returns-then-not-may_flush-clause-flushed : goal.returns-then-not-may_flush-clause-flushed
returns-then-not-may_flush-clause-flushed g c = sym c.may_flush.ensures ∙ c.if-not-may_flush.true

pub returns-in-Ok-flush-clause-asks : goal.returns-in-Ok-flush-clause-asks
returns-in-Ok-flush-clause-asks g c = λ s seen steps stands keeps well ticked.
    let w = c.in-Ok.ensures.reads s seen steps stands keeps well ticked in
    let may = may-be-flushed w.stands w.keeps (sym c.may_flush.ensures ∙ c.if-not-may_flush.false) in
    asked-then w (flushes-more w.stands w.keeps (goes-on w well) w.ticked may c.in-Ok-flush.ensures.flushes)

pub returns-in-Err-flush-clause-asks : goal.returns-in-Err-flush-clause-asks
returns-in-Err-flush-clause-asks g c = λ s seen steps stands keeps well ticked.
    let w = c.in-Ok.ensures.reads s seen steps stands keeps well ticked in
    ended-as w.stands (goes-on w well, inr (may-be-flushed w.stands w.keeps (sym c.may_flush.ensures ∙ c.if-not-may_flush.false)))
