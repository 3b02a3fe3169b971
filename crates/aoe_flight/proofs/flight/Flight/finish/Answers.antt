use Rattle.std.proofs.Common.{refl, arith}
use Rattle.slab.specs.Slab.{values}
use Rattle.aoe_flight.specs.Outstanding.{after_finish}
use Rattle.aoe_flight.proofs.PastLemmas.{past-finished}
use Rattle.aoe_flight.proofs.SoundLemmas.{finish-value, sound-changed}
use Rattle.aoe_flight.proofs.RecallLemmas.{recalls-change}
use Rattle.aoe_flight.proofs.flight.Flight.finish.Goals as goal

pub invariant_of-self : goal.invariant_of-self
invariant_of-self c = (
  sound-changed c.args.ticket.0 after_finish (λ d. refl) c.finish.ensures.values c.finish.ensures.capacity c.self.invariant.0,
  past-finished c.self.inside.latest.0 c.args.ticket.0 (values c.self.inside.commands) _ c.finish.ensures.values c.self.invariant.1,
  c.self.invariant.2,
)

pub returns-clause-value : goal.returns-clause-value
returns-clause-value c = finish-value (values c.self.inside.commands) c.self.view_is c.args.ticket.0 after_finish _ c.finish.ensures.values

pub returns-clause-recalls : goal.returns-clause-recalls
returns-clause-recalls c = λ sent recalls.
    recalls-change c.args.self.now _ sent c.args.ticket.0 after_finish c.args.self.now.latest (returns-clause-value c) recalls (omega arith)
