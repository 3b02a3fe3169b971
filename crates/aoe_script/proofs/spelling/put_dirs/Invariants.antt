use Rattle.std.proofs.Common.{◌≡◌, ◌++◌, map, take}
use Rattle.std.specs.List.{join_with_byte}
use Rattle.aoe_script.specs.Print.{dir_text}
use Rattle.aoe_script.proofs.spelling.put_dirs.Given as goal

abbrev pub invariant-dirs : goal.invariant-dirs
invariant-dirs l = l.out.items ≡ l.initial.out.items ++ join_with_byte 44 (map dir_text (take l.i l.dirs))
