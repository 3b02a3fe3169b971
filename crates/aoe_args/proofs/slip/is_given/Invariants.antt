use Rattle.std.proofs.Common.{◌≡◌, drop, map, string_bytes}
use Rattle.aoe_args.specs.Places.{is_given}
use Rattle.aoe_args.proofs.slip.is_given.Given as goal

abbrev pub invariant-words : goal.invariant-words
invariant-words l = is_given l.fn.name (drop l.place (map string_bytes l.fn.words)) ≡ is_given l.fn.name (map string_bytes l.fn.words)
