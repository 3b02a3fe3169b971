use Rattle.std.proofs.Common.{arith}
use Rattle.aoe_soak.proofs.GoodLemmas.{passes, takes_lost, takes_repeated}
use Rattle.aoe_soak.proofs.command.put_following.Goals as goal

pub add_all-requires : goal.add_all-requires
add_all-requires c = (omega arith, (takes_lost c.args.script.now c.requires.stations, omega (arith, c.requires.room)))

pub add_all-requires-in-6 : goal.add_all-requires-in-6
add_all-requires-in-6 c = (omega arith, (takes_repeated c.args.script.now c.requires.stations, omega (arith, c.requires.room)))

pub add-requires-clause-good : goal.add-requires-clause-good
add-requires-clause-good c = passes c.args.script.now c.requires.stations
