use Rattle.std.proofs.Common.{◌∙◌, refl}
use Rattle.aoe_hold.proofs.KeyLemmas.{range-is}
use Rattle.aoe_hold.proofs.ListLemmas.{filter-alike}
use Rattle.aoe_hold.proofs.keys.Near.new.Goals as goal

pub returns-clause-keys : goal.returns-clause-keys
returns-clause-keys c =
    c.range.ensures.between tt
    ∙ filter-alike _ _ (λ k. range-is c.args.writes c.args.first c.args.until _ _ k refl refl) c.args.keys.now.keys
