use Rattle.std.proofs.Common.{◌≡◌, ◌∷◌}
use Rattle.std.specs.Array.Iter.{array_into_iter_items}
use Rattle.aoe_script.proofs.SetupLemmas.{memory-alone, unrefused}
use Rattle.aoe_script.proofs.script.Script.of_setups.Goals as goal

pub memory_alone-requires : goal.memory_alone-requires
memory_alone-requires g c =
    let left : array_into_iter_items c.setups.setup-iterator ≡ c.in-Some.setup ∷ array_into_iter_items c.next.new.self = c.in-Some.ensures.steps in
    memory-alone _ c.in-Err.refusal (unrefused c.setups.script c.args.setups _ _ _ c.setups.invariant left _ c.requires.good) c.in-Err.ensures.cause
