use Rattle.std.proofs.Common.{ℕ, ◌≡◌}
use Rattle.aoe_audit.specs.Known.{value_lost, value_of}
use Rattle.aoe_audit.proofs.KnownLemmas.{first}
use Rattle.aoe_audit.proofs.known.Known.forget.Given as goal

abbrev pub invariant-sectors : goal.invariant-sectors
invariant-sectors l = (q : ℕ) → value_of l.self q ≡ value_lost (first l.span.at l.i) l.fn.self q
