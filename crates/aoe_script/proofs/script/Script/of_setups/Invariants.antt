use Rattle.std.specs.Array.Iter.{array_into_iter_items}
use Rattle.aoe_script.proofs.SetupLemmas.{AreDeclared}
use Rattle.aoe_script.proofs.script.Script.of_setups.Given as goal

abbrev pub invariant-setups : goal.invariant-setups
invariant-setups g l = AreDeclared l.script l.fn.setups (array_into_iter_items l.setup-iterator)
