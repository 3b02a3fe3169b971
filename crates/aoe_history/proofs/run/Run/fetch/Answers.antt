use Rattle.aoe_history.proofs.RunLemmas.{bound-of}
use Rattle.aoe_history.proofs.run.Run.fetch.Goals as goal

-- src/run.rt:90:5
pub returns-clause-bound : goal.returns-clause-bound
returns-clause-bound c = bound-of (λ f. f.now) c.fetch.result c.self.inside.net c.args.number.0 c.self.inside.clock.0 c.self.invariant.short c.fetch.ensures
