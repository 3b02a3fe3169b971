use Rattle.aoe_sim_setup.proofs.EventLemmas.{can-come, why-parts}
use Rattle.aoe_sim_setup.proofs.GoodLines.{are-good}
use Rattle.aoe_sim_setup.proofs.laws.events_law.Goals as goal

pub returns-clause-comes : goal.returns-clause-comes
returns-clause-comes c script event is none = can-come script.setups (are-good script is) event (why-parts script.setups event none)

pub returns-clause-ranges : goal.returns-clause-ranges
returns-clause-ranges c script event none = (why-parts script.setups event none).0
