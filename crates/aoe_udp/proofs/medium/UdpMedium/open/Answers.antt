use Rattle.std.proofs.Common.{rules}
use Rattle.aoe_udp.proofs.medium.UdpMedium.open.Goals as goal

pub invariant_of-result : goal.invariant_of-result
invariant_of-result c = record { network = c.is_network.ensures.few (search rules) }
