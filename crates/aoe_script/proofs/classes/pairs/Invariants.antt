use Rattle.std.proofs.Common.{length}
use Rattle.aoe_script.proofs.PairLemmas.{ArePaired}
use Rattle.aoe_script.proofs.classes.pairs.Given as goal

abbrev pub invariant-pairs : goal.invariant-pairs
invariant-pairs l = ArePaired l.text l.left l.bytes.items

abbrev pub decreases-pairs : goal.decreases-pairs
decreases-pairs l = length l.left
