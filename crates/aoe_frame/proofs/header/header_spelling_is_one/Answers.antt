use Rattle.aoe_frame.proofs.HeaderLemmas.{one-spelling}
use Rattle.aoe_frame.proofs.header.header_spelling_is_one.Goals as goal

pub returns : goal.returns
returns c h f small clear is = one-spelling h f small clear is
