use Rattle.std.proofs.Common.{◌≡◌, ◌∙◌, ap}
use Rattle.aoe_soak.specs.Soak.{stations}
use Rattle.aoe_soak.proofs.GoodLemmas.{takes_one}
use Rattle.aoe_soak.proofs.command.put_command.Goals as goal

pub add-requires-clause-good : goal.add-requires-clause-good
add-requires-clause-good c =
    let same : c.put_before.new.script.setups ≡ stations = ap (λ s. s.setups) c.in_ok-put_before.ensures ∙ c.requires.stations in
    takes_one c.put_before.new.script same c.args.seed c.args.i c.first_line.result c.first_line.ensures
