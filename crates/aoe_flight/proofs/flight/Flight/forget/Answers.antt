use Rattle.slab.specs.Slab.{values}
use Rattle.aoe_flight.proofs.PastLemmas.{past-live}
use Rattle.aoe_flight.proofs.SoundLemmas.{forget-value, sound-live, time-of}
use Rattle.aoe_flight.proofs.RecallLemmas.{recalls-at}
use Rattle.aoe_flight.proofs.flight.Flight.forget.Goals as goal

pub invariant_of-self : goal.invariant_of-self
invariant_of-self c =
    let later = time-of (values c.self.inside.commands) c.self.view_is c.args.now.0 c.requires in (
      sound-live c.self.inside.rest.0 c.args.now.0 c.forget.ensures.values c.forget.ensures.capacity c.self.invariant.0,
      past-live c.self.inside.latest.0 c.self.inside.rest.0 c.args.now.0 (values c.self.inside.commands) _ c.forget.ensures.values later c.self.invariant.1,
      c.self.invariant.2,
    )

pub returns-clause-value : goal.returns-clause-value
returns-clause-value c = forget-value (values c.self.inside.commands) c.self.view_is c.args.now.0 _ c.requires c.forget.ensures.values

pub returns-clause-recalls : goal.returns-clause-recalls
returns-clause-recalls c = λ sent recalls. recalls-at c.args.self.now _ sent c.args.now.0 (returns-clause-value c) recalls c.requires
