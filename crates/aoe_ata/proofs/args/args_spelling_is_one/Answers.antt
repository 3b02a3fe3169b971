use Rattle.aoe_ata.proofs.ArgsLemmas.{one-spelling}
use Rattle.aoe_ata.proofs.args.args_spelling_is_one.Goals as goal

pub returns : goal.returns
returns c args bytes small ten eleven is = one-spelling args bytes small ten eleven is
