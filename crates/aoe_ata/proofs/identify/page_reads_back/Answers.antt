use Rattle.aoe_ata.proofs.PageLemmas.{declared-page}
use Rattle.aoe_ata.proofs.identify.page_reads_back.Goals as goal

pub returns : goal.returns
returns c total serial small long = declared-page total serial small long
