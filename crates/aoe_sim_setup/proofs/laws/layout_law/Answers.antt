use Rattle.aoe_sim_setup.proofs.GoodLines.{are-good}
use Rattle.aoe_sim_setup.proofs.HostLemmas.{has-hosts}
use Rattle.aoe_sim_setup.proofs.RangeLemmas.{has-ranges}
use Rattle.aoe_sim_setup.proofs.SetupLemmas.{is-setup}
use Rattle.aoe_sim_setup.proofs.SlotLemmas.{has-shelves}
use Rattle.aoe_sim_setup.proofs.StationLemmas.{has-stations}
use Rattle.aoe_sim_setup.proofs.laws.layout_law.Goals as goal

pub returns-clause-setup : goal.returns-clause-setup
returns-clause-setup c script is = is-setup script.setups (are-good script is) is.setups_fit

pub returns-clause-hosts : goal.returns-clause-hosts
returns-clause-hosts c script is = has-hosts script.setups (are-good script is)

pub returns-clause-shelves : goal.returns-clause-shelves
returns-clause-shelves c script is = has-shelves script.setups (are-good script is)

pub returns-clause-ranges : goal.returns-clause-ranges
returns-clause-ranges c script is = has-ranges script.setups (are-good script is)

pub returns-clause-stations : goal.returns-clause-stations
returns-clause-stations c script is = has-stations script.setups (are-good script is)
