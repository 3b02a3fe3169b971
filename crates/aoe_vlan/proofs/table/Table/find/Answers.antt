use Rattle.std.proofs.Common.{◌∙◌, ap}
use Rattle.aoe_vlan.specs.Tables.{Table, found}
use Rattle.aoe_vlan.proofs.table.Table.find.Goals as goal

pub returns : goal.returns
returns c = c.copied.ensures ∙ c.get.ensures.value ∙ ap (λ (t : Table). found t.stations c.args.address.now) c.self.view_is
