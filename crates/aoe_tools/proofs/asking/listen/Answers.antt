use Rattle.std.proofs.Common.{◌∙◌}
use Rattle.aoe_tools.proofs.ListenLemmas.{ends-with, fails, goes-on}
use Rattle.aoe_tools.proofs.asking.listen.Goals as goal

pub turns-preserved : goal.turns-preserved
turns-preserved g c =
    let on = goes-on c.turns.invariant.0 c.turns-test.true (rw c.in-Ok-None.field-0-is at c.in-Ok-None.ensures.turn) in
    (on.0, on.2, c.in-Ok-None.ensures.link.no_fault (λ e. absurd cc) ∙ c.turns.invariant.2)

pub turns-smaller : goal.turns-smaller
turns-smaller g c = (goes-on c.turns.invariant.0 c.turns-test.true (rw c.in-Ok-None.field-0-is at c.in-Ok-None.ensures.turn)).1

pub returns-in-Ok-Some-clause-listens : goal.returns-in-Ok-Some-clause-listens
returns-in-Ok-Some-clause-listens g c = (ends-with c.turns.invariant.0 c.turns-test.true (rw c.in-Ok-Some.field-0-is at c.in-Ok-Some.ensures.turn)).0

pub returns-in-Ok-Some-clause-within : goal.returns-in-Ok-Some-clause-within
returns-in-Ok-Some-clause-within g c = (ends-with c.turns.invariant.0 c.turns-test.true (rw c.in-Ok-Some.field-0-is at c.in-Ok-Some.ensures.turn)).1

pub returns-in-Err-clause-listens : goal.returns-in-Err-clause-listens
returns-in-Err-clause-listens g c = (fails c.turns.invariant.0 c.turns-test.true c.in-Err.ensures.turn).0

pub returns-in-Err-clause-within : goal.returns-in-Err-clause-within
returns-in-Err-clause-within g c = (fails c.turns.invariant.0 c.turns-test.true c.in-Err.ensures.turn).1
