use Rattle.aoe_tools.proofs.GuardLemmas.{few-pieces}
use Rattle.aoe_tools.proofs.guard.dirs_in.Goals as goal

pub returns-clause-few : goal.returns-clause-few
returns-clause-few c = rw c.pieces.ensures (few-pieces c.args.args.now c.requires)
