use Rattle.std.proofs.Common.{◌≡◌, ◌++◌, map, take}
use Rattle.std.specs.List.{join_with_byte}
use Rattle.aoe_base.specs.Names.{mac_text}
use Rattle.aoe_base.proofs.text.put_macs.Given as goal

abbrev pub invariant-macs : goal.invariant-macs
invariant-macs l = l.out.items ≡ l.initial.out.items ++ join_with_byte 44 (map mac_text (take l.i l.macs))
