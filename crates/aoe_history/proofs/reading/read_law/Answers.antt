use Rattle.aoe_history.proofs.reads.ReadLemmas.{read-law}
use Rattle.aoe_history.proofs.reading.read_law.Goals as goal

pub returns : goal.returns
returns c = read-law
