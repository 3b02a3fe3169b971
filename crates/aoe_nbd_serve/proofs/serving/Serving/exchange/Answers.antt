use Rattle.aoe_nbd_serve.specs.declared.terms.ServeEnd.TheVariants as serve_end
use Rattle.aoe_nbd_serve.proofs.EndSteps.{ended-went}
use Rattle.aoe_nbd_serve.proofs.serving.Serving.exchange.Goals as goal

pub returns-in-Err-clause-exchanges : goal.returns-in-Err-clause-exchanges
returns-in-Err-clause-exchanges g c = λ s seen serves. ended-went serve_end.LinkFault (c.in-Err.ensures.sends s seen serves) tt

pub returns-in-Err-hear_some-clause-exchanges : goal.returns-in-Err-hear_some-clause-exchanges
returns-in-Err-hear_some-clause-exchanges g c = λ s seen serves. c.in-Err-hear_some.ensures.hears s seen 128 (c.in-Ok.ensures.sends s seen serves)
