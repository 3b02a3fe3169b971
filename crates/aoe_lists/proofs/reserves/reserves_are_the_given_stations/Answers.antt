use Rattle.aoe_lists.proofs.AddressLemmas.{all_unique-first_places, holds-first_places}
use Rattle.aoe_lists.proofs.reserves.reserves_are_the_given_stations.Goals as goal

pub returns-clause-given : goal.returns-clause-given
returns-clause-given c = holds-first_places

pub returns-clause-once : goal.returns-clause-once
returns-clause-once c = all_unique-first_places
