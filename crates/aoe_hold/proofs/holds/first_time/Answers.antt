use Rattle.std.proofs.Common.{sym}
use Rattle.aoe_hold.proofs.WaitLemmas.{first-past, none-past}
use Rattle.aoe_hold.proofs.holds.first_time.Goals as goal

pub returns-in-Some-clause-time : goal.returns-in-Some-clause-time
returns-in-Some-clause-time g c = λ now small. first-past now c.args.timed.now.items c.in-Some.first.now c.in-Some.ensures.order (sym c.in-Some.ensures.value)

pub returns-in-None-clause-time : goal.returns-in-None-clause-time
returns-in-None-clause-time g c = λ now small. none-past now c.args.timed.now.items small (sym c.in-None.ensures.value)
