use Rattle.std.proofs.Common.{◌==◌, ◌≡◌, ◌++◌, length, take}
use Rattle.std.specs.List.{flat_map, slice_split}
use Rattle.aoe_system.specs.Names.{behind_slash}
use Rattle.aoe_system.proofs.names.add_parts.Given as goal

abbrev pub invariant-parts : goal.invariant-parts
invariant-parts l = record {
  can : (goal.iterator-parts).can_next l.part-iterator;
  ends : (goal.iterator-parts).is_finite l.part-iterator;
  so_far : l.all.items ≡ l.initial.all.items ++ flat_map behind_slash (take (length l.yielded) (slice_split (λ c. c == 47) l.fn.name));
}
