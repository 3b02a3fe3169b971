use Rattle.std.proofs.Common.{refl}
use Rattle.aoe.proofs.run_over.Goals as goal

pub aoe-status-requires-clause-told : goal.aoe-status-requires-clause-told
aoe-status-requires-clause-told c = λ _ given is. (tt, λ _. refl)
