use Rattle.std.proofs.Common.{◌∙◌}
use Rattle.aoe_wire.proofs.SendLemmas.{fails, one-more}
use Rattle.aoe_wire.proofs.send.give_each.Goals as goal

pub returns-in-Err-clause-gives : goal.returns-in-Err-clause-gives
returns-in-Err-clause-gives g c =
    fails _ _ _ c.args.frame.now c.peers.peer c.peers.invariant.0 c.args.peers c.peers-test.true c.in-Err.ensures.gives

pub peers-preserved : goal.peers-preserved
peers-preserved g c =
    (one-more _ _ _ c.args.frame.now c.peers.peer c.peers.invariant.0 c.in-Ok.ensures.gives, c.in-Ok.ensures.took ∙ c.peers.invariant.1)
