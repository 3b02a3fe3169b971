use Rattle.std.proofs.Common.{◌≡◌, take}
use Rattle.aoe_vlan.specs.Tables.{AreBlank}
use Rattle.aoe_vlan.specs.Tag.{carries}
use Rattle.aoe_vlan.proofs.TableLemmas.{Covers}
use Rattle.aoe_vlan.proofs.switch.Switch.new.Given as goal

abbrev pub invariant-ports : goal.invariant-ports
invariant-ports l = (l.copies.items ≡ take l.port-index l.ports) × AreBlank l.tables.items × Covers carries l.ports l.port-index l.tables.items
