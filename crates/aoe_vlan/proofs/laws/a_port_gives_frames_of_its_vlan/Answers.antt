use Rattle.aoe_vlan.proofs.LawLemmas.{port-alone}
use Rattle.aoe_vlan.proofs.laws.a_port_gives_frames_of_its_vlan.Goals as goal

pub returns : goal.returns
returns c ports port vid inputs is = port-alone ports port vid is inputs
