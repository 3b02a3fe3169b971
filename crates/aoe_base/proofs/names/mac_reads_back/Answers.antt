use Rattle.aoe_base.proofs.MacLemmas.{reads-back}
use Rattle.aoe_base.proofs.names.mac_reads_back.Goals as goal

pub returns : goal.returns
returns c mac six small = reads-back mac six small
