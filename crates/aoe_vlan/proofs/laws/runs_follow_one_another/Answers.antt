use Rattle.aoe_vlan.proofs.RunLemmas.{behind-none, behind-others}
use Rattle.aoe_vlan.proofs.laws.runs_follow_one_another.Goals as goal

pub returns-clause-further : goal.returns-clause-further
returns-clause-further c = behind-others

pub returns-clause-first : goal.returns-clause-first
returns-clause-first c = behind-none
