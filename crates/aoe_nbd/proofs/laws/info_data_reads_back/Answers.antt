use Rattle.aoe_nbd.proofs.InfoLemmas.{name-back, name-is}
use Rattle.aoe_nbd.proofs.laws.info_data_reads_back.Goals as goal

pub returns : goal.returns
returns c name infos small few = (name-back name infos small few, name-is name infos)
