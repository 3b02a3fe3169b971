use Rattle.aoe_target.proofs.PieceLemmas.{up_to_sixty}
use Rattle.aoe_target.proofs.reply.repeated.Goals as goal

pub returns-clause-bytes : goal.returns-clause-bytes
returns-clause-bytes c = up_to_sixty c.args.frame.now c.min.result c.min.ensures
