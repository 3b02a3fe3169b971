use Rattle.std.proofs.Common.{◌≤◌, ◌<◌, ℕ, map, string_bytes}
use Rattle.aoe_args.specs.Apps.{form}
use Rattle.aoe_args.specs.Slips.{IsRight}
use Rattle.aoe_args.specs.Walks.{IsWalked}
use Rattle.aoe_args.proofs.slip.walk.Given as goal

abbrev pub invariant-words : goal.invariant-words
invariant-words l = record {
  walked : IsWalked (form l.fn.form) (map string_bytes l.fn.words) l.place l.walked;
  right : (n : ℕ) → 1 ≤ n → n < l.place → IsRight (form l.fn.form) (map string_bytes l.fn.words) n;
}
