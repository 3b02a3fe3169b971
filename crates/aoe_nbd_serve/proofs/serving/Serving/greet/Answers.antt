use Rattle.std.proofs.Common.{refl}
use Rattle.aoe_block.specs.Steps.{owns}
use Rattle.aoe_nbd_serve.proofs.GuestSteps.{accepted-one, closed-one}
use Rattle.aoe_nbd_serve.proofs.serving.Serving.greet.Goals as goal

pub returns-in-Ok-clause-greets : goal.returns-in-Ok-clause-greets
returns-in-Ok-clause-greets g c = λ s seen before most came serves.
    let r = c.requires in
    let n = c.saturating_add-self in
    rw c.in-Ok.ensures (accepted-one seen c.args.self.now serves n.result n.ensures r.nobody r.goes_on r.answered came).0

pub returns-in-Err-clause-greets : goal.returns-in-Err-clause-greets
returns-in-Err-clause-greets g c = λ s seen before most came serves.
    let r = c.requires in
    let n = c.saturating_add-self in
    let x = c.args.self.now in
    let one = accepted-one seen x serves n.result n.ensures r.nobody r.goes_on r.answered came in
    rw r.nobody
    (closed-one seen (record x { served = record x.served { clients = n.result }; waits = 0 }) one.0 (owns serves.steps) x.time.0 one.1 refl c.close.ensures.told)
