use Rattle.aoe_initiator.specs.Host.{Host}
use Rattle.std.proofs.Common.{ap, refl}
use Rattle.std.proofs.lemmas.List.{take_rest}
use Rattle.aoe_initiator.proofs.TakeLemmas.{left-closed, takes-finished}
use Rattle.aoe_initiator.proofs.initiator.Initiator.receive.Goals as goal

pub finish-requires-clause-fills : goal.finish-requires-clause-fills
finish-requires-clause-fills c =
    rw (take_rest c.args.frame.now 24) c.in-Some.ensures.fills

pub returns-in-Some-clause-taken : goal.returns-in-Some-clause-taken
returns-in-Some-clause-taken c = λ log m.
    let heard = c.in-Some.heard in
    let f = c.finish.ensures.closes.0 in
    takes-finished c.args.self.now c.finish.new.self log c.args.frame.now heard.at heard.ticket heard.path f heard.answer c.finish.result m
    c.in-Some.ensures.there c.finish.ensures.closes.1
    (rw (← (take_rest c.args.frame.now 24)) c.finish.ensures.closes.2) c.finish.ensures.ticket (c.in-Some.ensures.some log m)

pub returns-in-Some-clause-same : goal.returns-in-Some-clause-same
returns-in-Some-clause-same c =
    let left = left-closed c.args.self.now c.finish.new.self c.in-Some.heard.at _ _ c.finish.ensures.closes.2 in
    (left.same, left.clock, left.last)

pub returns-in-None-clause-taken : goal.returns-in-None-clause-taken
returns-in-None-clause-taken c = λ log m. (c.in-None.ensures.none log m, refl)

pub returns-in-Some-clause-no_tag : goal.returns-in-Some-clause-no_tag
returns-in-Some-clause-no_tag c = ap (λ (h : Host). h.flight.last_tag) c.finish.ensures.closes.2.after
