use Rattle.aoe_base.proofs.DeviceLemmas.{from-name, named}
use Rattle.aoe_base.proofs.names.device_law.Goals as goal

pub returns : goal.returns
returns c = λ id text. (named id text, from-name id text)
