use Rattle.aoe_block.proofs.LawLemmas.{up_to-cut, up_to-fresh, up_to-hand, up_to-settle}
use Rattle.aoe_block.proofs.law.ticket_law.Goals as goal

pub returns-clause-made : goal.returns-clause-made
returns-clause-made c at max bytes parts cut = up_to-cut parts cut.pending

pub returns-clause-fresh : goal.returns-clause-fresh
returns-clause-fresh c last ticket parts up past = up_to-fresh last ticket parts up past

pub returns-clause-handed : goal.returns-clause-handed
returns-clause-handed c last ticket parts up past = up_to-hand last ticket parts up past

pub returns-clause-taken : goal.returns-clause-taken
returns-clause-taken c last block done up = up_to-settle last block.write done block.parts up
