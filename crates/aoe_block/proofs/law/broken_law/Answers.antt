use Rattle.aoe_block.specs.Calls.{are_ended, settle, part_of}
use Rattle.aoe_block.proofs.LawLemmas.{failed-hand, failed-settle, never_whole, part_breaks}
use Rattle.aoe_block.proofs.law.broken_law.Goals as goal

pub returns-clause-part : goal.returns-clause-part
returns-clause-part c block done outcome told = part_breaks block.write done outcome (are_ended (settle block done).parts) block.parts told

pub returns-clause-handed : goal.returns-clause-handed
returns-clause-handed c block ticket broken = failed-hand ticket block.parts broken

pub returns-clause-taken : goal.returns-clause-taken
returns-clause-taken c block done broken = failed-settle block.write done block.parts broken

pub returns-clause-never : goal.returns-clause-never
returns-clause-never c block done broken whole = never_whole block.write done (part_of done.ticket.0 block.parts) block.parts broken whole
