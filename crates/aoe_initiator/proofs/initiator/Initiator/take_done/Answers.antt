use Rattle.aoe_initiator.proofs.MatchLemmas.{matches-taken}
use Rattle.aoe_initiator.proofs.initiator.Initiator.take_done.Goals as goal

pub returns-clause-matches : goal.returns-clause-matches
returns-clause-matches c = λ log m.
    matches-taken log _ c.pop_front.new.self.items (rw (← c.self.view_is) at m)
