use Rattle.aoe_nbd_serve.specs.Serving.{seen_by}
use Rattle.aoe_nbd_serve.proofs.BeginLemmas.{never-began}
use Rattle.aoe_nbd_serve.proofs.run.serve.Goals as goal

pub returns-in_default-clause-served : goal.returns-in_default-clause-served
returns-in_default-clause-served g c = rw c.requires.nobody (never-began c.args.terms.now c.args.host _ c.requires.some c.requires.most)

pub returns-clause-served : goal.returns-clause-served
returns-clause-served g c =
    let a = c.args in
    let seen =
    seen_by (g.L.Link.turns a.link.now) (g.L.Link.given a.link.now) (g.L.Link.taken a.link.now) (g.K.Clock.answers a.clock.now) (g.C.Clients.told a.clients.now)
    (g.B.Bell.waits a.bell.now) (g.E.Ending.answers a.ending.now) in
    let begun = c.new-serving.ensures.serves seen (g.K.Clock.answers c.now.new.self) c.now.ensures.told in
    rw c.run-end.ensures.here (c.run-end.ensures.runs _ 0 begun)
