use Rattle.std.proofs.Common.{sym}
use Rattle.aoe_nbd_serve.proofs.DeskSteps.{gave-up-one}
use Rattle.aoe_nbd_serve.proofs.StepLemmas.{none-of}
use Rattle.aoe_nbd_serve.proofs.serving.Serving.submit_next.Goals as goal

pub returns-in-Err-clause-submits : goal.returns-in-Err-clause-submits
returns-in-Err-clause-submits c = λ s seen most x. gave-up-one c.args.self.now x c.give_up.new.self c.give_up.ensures.given_up (none-of c.args.self.now.last (sym c.if-is_some.ensures))
