use Rattle.std.proofs.Common.{Bool, sym, ap, ◌∙◌, ◌∷◌}
use Rattle.aoe_block.specs.Steps.{owns}
use Rattle.aoe_nbd_serve.specs.Deeds.Deed.{asks}
use Rattle.aoe_nbd_serve.specs.declared.terms.Asked.TheVariants as cause
use Rattle.aoe_nbd_serve.proofs.EndSteps.{asked-one, ended-by}
use Rattle.aoe_nbd_serve.proofs.RunLemmas.{is-nothing}
use Rattle.aoe_nbd_serve.proofs.serving.Serving.ask.Goals as goal

pub returns-then-not-is_asked_for-clause-asks : goal.returns-then-not-is_asked_for-clause-asks
returns-then-not-is_asked_for-clause-asks g c = λ setting seen most s.
    let unasked = is-nothing c.args.self.now.asked (sym c.if-is_some.ensures) in
    (asked-one seen c.args.self.now s c.saturating_add-self.result c.is_asked_for.result unasked c.is_asked_for.ensures.told).0

pub returns-clause-asks : goal.returns-clause-asks
returns-clause-asks g c = λ setting seen most s.
    let x = c.args.self.now in
    let unasked = is-nothing x.asked (sym c.if-is_some.ensures) in
    let (s', just) = asked-one seen x s c.saturating_add-self.result c.is_asked_for.result unasked c.is_asked_for.ensures.told in
    ended-by (record x { look = c.saturating_add-self.result }) s' cause.Stop unasked
    (owns s.steps, just ∙ ap (λ (b : Bool). asks b ∷ owns s.steps) c.if-not-is_asked_for.false)
