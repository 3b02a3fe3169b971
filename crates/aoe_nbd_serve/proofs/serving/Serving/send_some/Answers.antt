use Rattle.std.proofs.Common.{arith}
use Rattle.aoe_nbd_serve.proofs.serving.Serving.send_some.Goals as goal

pub returns-in-Err-clause-sends : goal.returns-in-Err-clause-sends
returns-in-Err-clause-sends g c = λ s seen serves. c.in-Err.ensures.sends s seen 0 (omega arith) serves

pub returns-in-Err-send_up_to-clause-sends : goal.returns-in-Err-send_up_to-clause-sends
returns-in-Err-send_up_to-clause-sends g c = λ s seen serves.
    c.in-Err-send_up_to.ensures.sends s seen 64 (omega arith) (c.in-Ok.ensures.sends s seen 0 (omega arith) serves)
