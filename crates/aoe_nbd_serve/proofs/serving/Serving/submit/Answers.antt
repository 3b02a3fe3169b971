use Rattle.std.proofs.Common.{refl}
use Rattle.aoe_nbd_serve.proofs.DeskSteps.{gave-up-one, handed-one, Submitted}
use Rattle.aoe_nbd_serve.proofs.serving.Serving.submit.Goals as goal

pub returns-then-not-has_ticket-clause-submits : goal.returns-then-not-has_ticket-clause-submits
returns-then-not-has_ticket-clause-submits c = λ s seen most x. gave-up-one c.args.self.now x c.give_up.new.self c.give_up.ensures.given_up c.requires.open

pub returns-in-Ok-clause-submits : goal.returns-in-Ok-clause-submits
returns-in-Ok-clause-submits c = λ s seen most x.
    let a = c.submit.ensures in
    let b = c.in-Ok.ensures in
    let sub : Submitted c.args.op c.in-Ok.ticket c.args.self.now.host c.submit.new.self =
    record { matches = b.matches; same = b.same.0; number = b.ticket; last = b.same.2; waiting = b.same.3; tag = b.no_tag } in
    handed-one c.args.self.now x c.submit.new.self sub c.requires.open c.requires.rested c.handed.new.self _ c.requires.next c.handed.ensures.handed refl c.requires.fit.low

pub returns-in-Err-NoMemory-default-clause-submits : goal.returns-in-Err-NoMemory-default-clause-submits
returns-in-Err-NoMemory-default-clause-submits c = λ s seen most x. rw c.in-Err-NoMemory-default.ensures.unchanged (gave-up-one c.args.self.now x c.give_up-in-Err-NoMemory-default.new.self c.give_up-in-Err-NoMemory-default.ensures.given_up c.requires.open)
