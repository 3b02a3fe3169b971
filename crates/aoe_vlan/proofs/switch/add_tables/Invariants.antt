use Rattle.std.proofs.Common.{nat_eq}
use Rattle.aoe_vlan.specs.Tables.{AreBlank, AreKept}
use Rattle.aoe_vlan.proofs.TableLemmas.{Covers}
use Rattle.aoe_vlan.proofs.switch.add_tables.Given as goal

abbrev pub invariant-numbers : goal.invariant-numbers
invariant-numbers l = AreBlank l.tables.items × AreKept l.initial.tables.items l.tables.items × Covers
    (λ vid n. nat_eq n vid) l.vid-items l.vid-index l.tables.items
