use Rattle.std.proofs.Common.{◌≡◌, ◌++◌, map, take}
use Rattle.std.specs.List.{join_with_byte}
use Rattle.aoe_base.specs.Names.{pair_text}
use Rattle.aoe_base.proofs.text.put_pairs.Given as goal

abbrev pub invariant-pairs : goal.invariant-pairs
invariant-pairs l = l.out.items ≡ l.initial.out.items ++ join_with_byte 58 (map pair_text (take l.i l.bytes))
