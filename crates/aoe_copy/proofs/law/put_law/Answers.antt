use Rattle.std.proofs.Common.{refl}
use Rattle.aoe_block.specs.Steps.{new_start}
use Rattle.aoe_copy.proofs.PutLawLemmas.{parts-law, window-law, writes-law, written-law}
use Rattle.aoe_copy.proofs.law.put_law.Goals as goal

pub returns-clause-asked : goal.returns-clause-asked
returns-clause-asked c = writes-law

pub returns-clause-parts : goal.returns-clause-parts
returns-clause-parts c = parts-law

pub returns-clause-window : goal.returns-clause-window
returns-clause-window c = λ base p flush w steps are. window-law (new_start base) p flush w refl steps are

pub returns-clause-written : goal.returns-clause-written
returns-clause-written c = written-law
