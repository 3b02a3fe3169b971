use Rattle.aoe_sim_shelves.proofs.ShelfLemmas.{both-changes}
use Rattle.aoe_sim_shelves.proofs.shelf.arm_disk.Goals as goal

pub returns-in-Store-clause-arms : goal.returns-in-Store-clause-arms
returns-in-Store-clause-arms c = rw c.in-Store.is (both-changes c.arm_store.ensures.arms c.arm_store.ensures.under)
