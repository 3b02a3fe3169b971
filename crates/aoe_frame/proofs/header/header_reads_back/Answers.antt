use Rattle.aoe_frame.proofs.HeaderLemmas.{head-header_bytes}
use Rattle.aoe_frame.proofs.header.header_reads_back.Goals as goal

pub returns : goal.returns
returns c h rest fits = head-header_bytes h rest fits
