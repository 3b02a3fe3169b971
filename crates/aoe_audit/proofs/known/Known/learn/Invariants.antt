use Rattle.std.proofs.Common.{ℕ, ◌≡◌}
use Rattle.aoe_audit.specs.Known.{value_of, value_read}
use Rattle.aoe_audit.proofs.KnownLemmas.{first}
use Rattle.aoe_audit.proofs.known.Known.learn.Given as goal

abbrev pub invariant-sectors : goal.invariant-sectors
invariant-sectors l = (q : ℕ) → value_of l.self q ≡ value_read (first l.span.at l.i) l.bytes l.fn.self q
