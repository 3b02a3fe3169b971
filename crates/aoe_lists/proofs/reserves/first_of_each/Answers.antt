use Rattle.std.proofs.Common.{arith}
use Rattle.std.proofs.lemmas.Grind.{common_steps}
use Rattle.aoe_lists.proofs.AddressLemmas.{first_places-append, holds-first_places, all_unique-first_places}
use Rattle.aoe_lists.proofs.reserves.first_of_each.Goals as goal

pub loop-six-preserved : goal.loop-six-preserved
loop-six-preserved c = grind (arith, common_steps, first_places-append, holds-first_places)

pub returns-clause-once : goal.returns-clause-once
returns-clause-once c = grind (arith, all_unique-first_places)
