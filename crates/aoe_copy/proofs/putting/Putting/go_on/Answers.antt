use Rattle.std.proofs.Common.{Bool, sym, ap, ◌∙◌}
use Rattle.std.specs.Prelude.{Ok}
use Rattle.aoe_copy.proofs.PutStepLemmas.{goes-on}
use Rattle.aoe_copy.proofs.PutTurnLemmas.{ends-err, ends-ok, turns-after}
use Rattle.aoe_copy.proofs.putting.Putting.go_on.Goals as goal

pub returns-in-Err-clause-goes : goal.returns-in-Err-clause-goes
returns-in-Err-clause-goes g c = λ s answers steps stands keeps well ticked. c.in-Err.ensures.asks s _ steps stands keeps well ticked

pub returns-in-Ok-true-clause-goes : goal.returns-in-Ok-true-clause-goes
returns-in-Ok-true-clause-goes g c = λ s answers steps stands keeps well ticked.
    let w = c.in-Ok.ensures.asks s _ steps stands keeps well ticked in
    let r = ends-ok w.stands w.keeps (goes-on w well) c.end.result c.end.ensures.end
    (c.in-Ok-true.is ∙ ap (λ (b : Bool). Ok b) c.in-Ok-true.field-0-test) in
    (r.0, rw r.1 w.keeps.drives, c.in-Ok.ensures.waiting ∙ c.requires.waiting)

pub returns-in-Ok-false-clause-goes : goal.returns-in-Ok-false-clause-goes
returns-in-Ok-false-clause-goes g c = λ s answers steps stands keeps well ticked.
    let w = c.in-Ok.ensures.asks s _ steps stands keeps well ticked in
    turns-after s _ steps w.steps' _ w.quiet_is w.left_is c.exchange.result
    (c.exchange.ensures.exchanges s answers _ w.steps' w.stands w.keeps (goes-on w well) w.ticked)

pub returns-in-Err-end-clause-goes : goal.returns-in-Err-end-clause-goes
returns-in-Err-end-clause-goes g c = λ s answers steps stands keeps well ticked.
    let w = c.in-Ok.ensures.asks s _ steps stands keeps well ticked in
    ends-err w.stands w.keeps (goes-on w well) c.in-Err-end.refusal (sym c.in-Err-end.is ∙ c.end.ensures.end)
