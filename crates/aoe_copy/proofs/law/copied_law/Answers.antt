use Rattle.aoe_copy.proofs.LawLemmas.{front-law, reads-law, window-law}
use Rattle.aoe_copy.proofs.law.copied_law.Goals as goal

pub returns-clause-asked : goal.returns-clause-asked
returns-clause-asked c = reads-law

pub returns-clause-window : goal.returns-clause-window
returns-clause-window c = window-law

pub returns-clause-front : goal.returns-clause-front
returns-clause-front c = front-law
