use Rattle.std.proofs.Common.{◌≡◌, ◌++◌, map, take}
use Rattle.std.specs.List.{join_with_byte}
use Rattle.aoe_script.specs.Print.{digits_text}
use Rattle.aoe_script.proofs.spelling.put_addresses.Given as goal

abbrev pub invariant-macs : goal.invariant-macs
invariant-macs l = l.out.items ≡ l.initial.out.items ++ join_with_byte 44 (map digits_text (take l.i l.macs))
