use Rattle.aoe_nbd.proofs.RefusalLemmas.{carried-out}
use Rattle.aoe_nbd.proofs.laws.what_is_carried_out.Goals as goal

pub returns : goal.returns
returns c e h is = carried-out e h is
