use Rattle.std.proofs.Common.{[], inl, inr, refl, ap, ◌∙◌}
use Rattle.aoe_initiator.specs.Host.{Host}
use Rattle.aoe_copy.proofs.HostLemmas.{starts-new}
use Rattle.aoe_copy.proofs.into.copy_in.Goals as goal

pub run-requires-clause-begins : goal.run-requires-clause-begins
run-requires-clause-begins g c =
    let start = starts-new _ _ _ _ _ _ c.in-Ok.ensures.host c.in-Ok.ensures.matches in
    (_, c.new.ensures.begins [] c.args.terms.now.ask.turns start, refl)

pub run-requires-clause-waiting : goal.run-requires-clause-waiting
run-requires-clause-waiting g c = ap (λ (h : Host). h.waiting) (c.new.ensures.host ∙ c.in-Ok.ensures.host)

pub returns-in-Ok-clause-runs : goal.returns-in-Ok-clause-runs
returns-in-Ok-clause-runs g c =
    let start = starts-new _ _ _ _ _ _ c.in-Ok.ensures.host c.in-Ok.ensures.matches in
    inr (rw (← c.in-Ok.ensures.host) (c.run.ensures.run _ (c.new.ensures.begins [] c.args.terms.now.ask.turns start) refl))

pub returns-in-Err-clause-runs : goal.returns-in-Err-clause-runs
returns-in-Err-clause-runs g c = inl (refl, refl)
