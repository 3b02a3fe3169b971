use Rattle.aoe_soak.proofs.LoopLemmas.{IsSoaked}
use Rattle.aoe_soak.proofs.whole.soak.Given as goal

abbrev pub invariant-commands : goal.invariant-commands
invariant-commands l = IsSoaked l.seed l.count l.i l.script
