use Rattle.aoe_hold.proofs.MoveLemmas.{none-late}
use Rattle.aoe_hold.proofs.queue.Queue.pop_past.Goals as goal

pub returns-in-Some-clause-late : goal.returns-in-Some-clause-late
returns-in-Some-clause-late g c =
    rw (← c.self.view_is) (none-late c.args.now.0 c.self.inside.waiters.items c.pop_front.result c.pop_front.ensures.none)
