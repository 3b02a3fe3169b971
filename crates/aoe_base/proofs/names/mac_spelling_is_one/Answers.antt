use Rattle.aoe_base.proofs.MacLemmas.{one-spelling}
use Rattle.aoe_base.proofs.names.mac_spelling_is_one.Goals as goal

pub returns : goal.returns
returns c mac text is = one-spelling mac text is
