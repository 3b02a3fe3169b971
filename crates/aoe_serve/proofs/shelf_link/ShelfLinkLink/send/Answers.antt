use Rattle.aoe_serve.proofs.ShelfLinkLemmas.{stays_short}
use Rattle.aoe_serve.proofs.shelf_link.ShelfLinkLink.send.Goals as goal

pub invariant_of-self : goal.invariant_of-self
invariant_of-self g c = stays_short c.round.result _ _ _ _ _ c.self.invariant c.round.ensures.round
