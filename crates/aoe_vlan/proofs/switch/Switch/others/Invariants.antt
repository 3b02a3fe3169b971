use Rattle.std.proofs.Common.{◌≡◌, ◌≤◌, length}
use Rattle.aoe_vlan.proofs.PortLemmas.{others-below}
use Rattle.aoe_vlan.proofs.switch.Switch.others.Given as goal

abbrev pub invariant-ports : goal.invariant-ports
invariant-ports l = (l.numbers.items ≡ others-below l.self.ports l.vid l.port l.q) × (length l.numbers.items ≤ l.q)
