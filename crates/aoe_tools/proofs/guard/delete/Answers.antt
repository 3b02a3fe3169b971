use Rattle.std.proofs.Common.{rules}
use Rattle.arrayvec.proofs.ArrayVecLemmas.{filter-from_retain}
use Rattle.aoe_tools.proofs.guard.delete.Goals as goal

pub returns-clause-change : goal.returns-clause-change
returns-clause-change c = filter-from_retain _ _ _ (λ x b f' y called. search rules) _ _ c.retain.ensures.filtered
