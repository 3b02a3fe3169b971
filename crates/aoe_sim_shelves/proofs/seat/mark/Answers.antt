use Rattle.aoe_sim_shelves.proofs.seat.mark.Goals as goal

pub returns-clause-finds : goal.returns-clause-finds
returns-clause-finds c = rw c.in-Ok.ensures.lists c.in-Ok.ensures.finds
