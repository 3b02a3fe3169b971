use Rattle.std.proofs.Common.{refl}
use Rattle.aoe_nbd_serve.proofs.HostSteps.{sent-as}
use Rattle.aoe_nbd_serve.proofs.StepLemmas.{IsAlike}
use Rattle.aoe_nbd_serve.proofs.serving.Serving.send_one.Goals as goal

pub returns-then-again-clause-sends : goal.returns-then-again-clause-sends
returns-then-again-clause-sends g c = λ s seen most few serves.
    let a = c.send_again.ensures in
    let alike : IsAlike c.args.self.now (record c.args.self.now { host = c.send_again.new.host; frame = c.send_again.new.frame }) =
    record { terms = refl; desk = refl; conversation = refl; has_written = refl; asked = refl; last = refl; waits = refl; served = refl } in
    sent-as seen _ few alike refl refl a.turns a.given serves c.send_again.result a.sends

pub returns-else-again-clause-sends : goal.returns-else-again-clause-sends
returns-else-again-clause-sends g c = λ s seen most few serves.
    let a = c.send_next.ensures in
    let alike : IsAlike c.args.self.now (record c.args.self.now { host = c.send_next.new.host; frame = c.send_next.new.frame }) =
    record { terms = refl; desk = refl; conversation = refl; has_written = refl; asked = refl; last = refl; waits = refl; served = refl } in
    sent-as seen _ few alike refl refl a.turns a.given serves c.send_next.result a.sends
