use Rattle.aoe_vlan.proofs.LawLemmas.{independent}
use Rattle.aoe_vlan.proofs.laws.vlans_are_independent.Goals as goal

pub returns : goal.returns
returns c ports vid inputs = independent ports vid inputs
