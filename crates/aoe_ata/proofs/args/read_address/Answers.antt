use Rattle.std.proofs.Common.{rules}
use Rattle.aoe_ata.proofs.ArgsLemmas.{address_of-below}
use Rattle.aoe_ata.proofs.args.read_address.Goals as goal

pub returns-clause-bound : goal.returns-clause-bound
returns-clause-bound c = address_of-below c.args.bytes.now c.from_le_bytes.result (search rules) c.requires (search rules)
