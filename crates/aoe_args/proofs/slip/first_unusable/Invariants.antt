use Rattle.std.proofs.Common.{◌≡◌, true, map, string_bytes, take}
use Rattle.std.specs.List.{list_all}
use Rattle.aoe_args.specs.Words.{is_word}
use Rattle.aoe_args.proofs.slip.first_unusable.Given as goal

abbrev pub invariant-words : goal.invariant-words
invariant-words l = list_all is_word (take l.place (map string_bytes l.fn.words)) ≡ true
