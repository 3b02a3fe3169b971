use Rattle.std.proofs.Common.{◌≡◌, ◌++◌, take}
use Rattle.std.specs.List.{flat_map}
use Rattle.aoe_base.specs.Names.{pair_text}
use Rattle.aoe_script.proofs.spelling.put_bytes.Given as goal

abbrev pub invariant-bytes : goal.invariant-bytes
invariant-bytes l = l.out.items ≡ l.initial.out.items ++ flat_map pair_text (take l.byte-index l.bytes)
