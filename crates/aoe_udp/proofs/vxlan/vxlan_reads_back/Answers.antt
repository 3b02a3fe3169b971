use Rattle.aoe_udp.proofs.VxlanLemmas.{other, same}
use Rattle.aoe_udp.proofs.vxlan.vxlan_reads_back.Goals as goal

pub returns-clause-same : goal.returns-clause-same
returns-clause-same c = λ vni frame few aoe. same vni frame few aoe

pub returns-clause-other : goal.returns-clause-other
returns-clause-other c = λ vni vni' frame few differs. other vni frame few vni' differs
