use Rattle.std.specs.Array.Iter.{array_into_iter_items}
use Rattle.aoe_soak.proofs.AddLemmas.{AreAdded}
use Rattle.aoe_soak.proofs.add.add_all.Given as goal

abbrev pub invariant-events : goal.invariant-events
invariant-events g l = AreAdded l.initial.script l.script (array_into_iter_items l.initial.event-iterator) (array_into_iter_items l.event-iterator)
