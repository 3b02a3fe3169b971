use Rattle.aoe_nbd_law.proofs.CallLemmas.{replied}
use Rattle.aoe_nbd_law.proofs.requests.requests_law.Goals as goal

pub returns : goal.returns
returns c total max calls reply run stands well = replied total max (c.desk_law.ensures.bounds total max) calls reply run stands well
