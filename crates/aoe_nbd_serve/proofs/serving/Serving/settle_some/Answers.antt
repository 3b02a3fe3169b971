use Rattle.aoe_nbd_serve.proofs.serving.Serving.settle_some.Goals as goal

pub returns-in-Last-clause-settles : goal.returns-in-Last-clause-settles
returns-in-Last-clause-settles c = λ s seen most x. c.in-Last.ensures.settles s seen most (c.outcomes.invariant.so s seen most x)
