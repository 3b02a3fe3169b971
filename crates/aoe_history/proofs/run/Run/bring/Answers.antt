use Rattle.aoe_history.proofs.RunLemmas.{carries-more}
use Rattle.aoe_history.proofs.run.Run.bring.Goals as goal

pub invariant_of-self-in-Ok : goal.invariant_of-self-in-Ok
invariant_of-self-in-Ok c =
    rw (c.in_ok-push.ensures.ok, c.in-Ok.ensures.sent)
    (carries-more c.self.invariant c.requires.len (rw (← c.self.view_is) at c.requires.room) (rw (← c.self.view_is) at c.requires.frames)
    (rw (← c.self.view_is) at c.requires.clock))
