use Rattle.aoe_tools.proofs.WaitLemmas.{goes-on-few, lasts-few}
use Rattle.aoe_tools.proofs.wait.requests_end.Goals as goal

pub returns-clause-one : goal.returns-clause-one
returns-clause-one c = goes-on-few

pub returns-clause-all : goal.returns-clause-all
returns-clause-all c = lasts-few
