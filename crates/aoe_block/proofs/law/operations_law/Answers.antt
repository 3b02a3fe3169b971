use Rattle.aoe_block.proofs.LawLemmas.{op-hand, op-settle}
use Rattle.aoe_block.proofs.law.operations_law.Goals as goal

pub returns-clause-handed : goal.returns-clause-handed
returns-clause-handed c block ticket = op-hand block.write ticket block.parts

pub returns-clause-taken : goal.returns-clause-taken
returns-clause-taken c block done = op-settle block.write done block.parts
