use Rattle.aoe_nbd_serve.specs.declared.terms.ServeEnd.TheVariants as serve_end
use Rattle.aoe_nbd_serve.proofs.EndSteps.{ended-as, ended-went}
use Rattle.aoe_nbd_serve.proofs.serving.Serving.hear_some.Goals as goal

pub returns-in-Ok-Ended-clause-hears : goal.returns-in-Ok-Ended-clause-hears
returns-in-Ok-Ended-clause-hears g c = λ s seen most serves.
    let h = rw c.in-Ok-Ended.field-0-is at (c.in-Ok-Ended.ensures.hears s seen most (c.frames.invariant.so s seen most serves)) in
    ended-as serve_end.LinkEnded h.0 h.1

pub returns-in-Err-clause-hears : goal.returns-in-Err-clause-hears
returns-in-Err-clause-hears g c = λ s seen most serves.
    ended-went serve_end.LinkFault (c.in-Err.ensures.hears s seen most (c.frames.invariant.so s seen most serves)) tt
