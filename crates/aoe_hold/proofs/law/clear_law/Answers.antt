use Rattle.aoe_hold.proofs.ClearLemmas.{clear-from, clear-parts}
use Rattle.aoe_hold.proofs.law.clear_law.Goals as goal

pub returns : goal.returns
returns c = λ life now entered command. (clear-parts life now entered command, clear-from life now entered command)
