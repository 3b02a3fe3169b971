use Rattle.std.proofs.Common.{◌∙◌}
use Rattle.aoe_mirror.proofs.Naming.{digests_back}
use Rattle.aoe_mirror.proofs.names.sector_of.Goals as goal

pub returns-clause-names : goal.returns-clause-names
returns-clause-names c = c.put_digests.ensures.names
    ∙ digests_back c.args.names.now 32 c.unwrap_or-one.result c.unwrap_or-two.result c.requires c.unwrap_or-one.ensures c.unwrap_or-two.ensures
