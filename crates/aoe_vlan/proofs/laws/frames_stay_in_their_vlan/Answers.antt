use Rattle.aoe_vlan.proofs.LawLemmas.{stays-in}
use Rattle.aoe_vlan.proofs.laws.frames_stay_in_their_vlan.Goals as goal

pub returns : goal.returns
returns c ports vid inputs i e = stays-in ports vid inputs i e
