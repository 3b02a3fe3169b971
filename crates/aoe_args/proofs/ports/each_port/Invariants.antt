use Rattle.std.proofs.Common.{◌==◌, ◌≤◌, length}
use Rattle.std.specs.List.{slice_split}
use Rattle.aoe_base.proofs.EachLemmas.{AreRead}
use Rattle.aoe_args.specs.Values.{port_of}
use Rattle.aoe_args.proofs.ports.each_port.Given as goal

abbrev pub invariant-parts : goal.invariant-parts
invariant-parts l = record {
  can : (goal.iterator-parts).can_next l.part-iterator;
  ends : (goal.iterator-parts).is_finite l.part-iterator;
  few : length l.ports.items ≤ 4;
  so_far : AreRead port_of (slice_split (λ c. c == 44) l.fn.text) (length l.yielded) l.ports.items;
}
