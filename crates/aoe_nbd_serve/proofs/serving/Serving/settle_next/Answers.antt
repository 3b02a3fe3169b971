use Rattle.aoe_nbd_serve.proofs.DeskSteps.{settled-last, settled-one}
use Rattle.aoe_nbd_serve.proofs.serving.Serving.settle_next.Goals as goal

pub returns-in_default-settle-clause-settles : goal.returns-in_default-settle-clause-settles
returns-in_default-settle-clause-settles c = λ s seen most x.
    (settled-one c.args.self.now x c.take_done.new.self c.in-Some.done c.in-Some.ensures.first c.in-Some.ensures.same c.in-Some.ensures.matches c.settle.new.self c.has_written-self.result
    c.settle.ensures.settled c.has_written-self.ensures).0

pub returns-then-is_last-clause-settles : goal.returns-then-is_last-clause-settles
returns-then-is_last-clause-settles c = λ s seen most x.
    settled-last c.args.self.now x c.take_done.new.self c.in-Some.done c.in-Some.ensures.first c.in-Some.ensures.same c.in-Some.ensures.matches c.settle.new.self c.has_written-self.result c.in-Some-settle.back
    c.settle.ensures.settled c.has_written-self.ensures c.in-Some-settle.ensures.stranger.0 (c.is_last.ensures.0 c.if-is_last.true)

pub returns-else-is_last-clause-settles : goal.returns-else-is_last-clause-settles
returns-else-is_last-clause-settles c = λ s seen most x.
    (settled-one c.args.self.now x c.take_done.new.self c.in-Some.done c.in-Some.ensures.first c.in-Some.ensures.same c.in-Some.ensures.matches c.settle.new.self c.has_written-self.result
    c.settle.ensures.settled c.has_written-self.ensures).0
