use Rattle.std.proofs.Common.{◌≡◌, map, string_bytes, take}
use Rattle.aoe_args.proofs.read.copies.Given as goal

abbrev pub invariant-texts : goal.invariant-texts
invariant-texts l = map string_bytes l.names.items ≡ map (λ text. text.now) (take l.text-index l.texts)
