use Rattle.aoe_hold.proofs.holds.keeper_of.Goals as goal

pub returns-then-goes_by_span-clause-keeper : goal.returns-then-goes_by_span-clause-keeper
returns-then-goes_by_span-clause-keeper g c = c.keeper_by_span.ensures.keeper c.args.latest.0
