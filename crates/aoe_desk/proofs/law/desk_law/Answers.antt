use Rattle.aoe_desk.proofs.RunLemmas.{apart, run_desk}
use Rattle.aoe_desk.proofs.law.desk_law.Goals as goal

pub returns-clause-bounds : goal.returns-clause-bounds
returns-clause-bounds c total max calls run = run_desk total max calls run

pub returns-clause-apart : goal.returns-clause-apart
returns-clause-apart c d ticket j k a b desk is_a is_b own_a own_b = apart desk ticket j k a b is_a is_b own_a own_b
