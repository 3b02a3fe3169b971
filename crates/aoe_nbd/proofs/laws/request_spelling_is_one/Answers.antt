use Rattle.aoe_nbd.proofs.HeadLemmas.{head-spelled}
use Rattle.aoe_nbd.proofs.laws.request_spelling_is_one.Goals as goal

pub returns : goal.returns
returns c f h small is = let s = head-spelled h f small is in (s.fits, s.bytes)
