use Rattle.aoe_audit.specs.Known.{AreAsKnown}
use Rattle.aoe_audit.proofs.KnownLemmas.{first}
use Rattle.aoe_audit.proofs.known.Known.may_all_have.Given as goal

abbrev pub invariant-sectors : goal.invariant-sectors
invariant-sectors l = AreAsKnown (first l.span.at l.i) l.bytes l.self
