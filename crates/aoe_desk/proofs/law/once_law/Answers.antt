use Rattle.aoe_desk.proofs.RunLemmas.{once}
use Rattle.aoe_desk.proofs.law.once_law.Goals as goal

pub returns : goal.returns
returns c handle total max calls run = once handle total max calls
