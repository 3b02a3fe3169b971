use Rattle.std.proofs.Common.{refl}
use Rattle.slab.specs.Slab.{values}
use Rattle.aoe_flight.specs.Outstanding.{after_repeat}
use Rattle.aoe_flight.proofs.PastLemmas.{past-repeated}
use Rattle.aoe_flight.proofs.SoundLemmas.{change-value, sound-changed, time-of}
use Rattle.aoe_flight.proofs.RecallLemmas.{recalls-change}
use Rattle.aoe_flight.proofs.flight.Flight.repeat.Goals as goal

pub invariant_of-self : goal.invariant_of-self
invariant_of-self c =
    let later = time-of (values c.self.inside.commands) c.self.view_is c.args.now.0 c.requires in (
      sound-changed c.args.ticket.0 (after_repeat c.args.now c.args.path c.args.wait)
          (λ d. refl) c.repeat.ensures.values c.repeat.ensures.capacity c.self.invariant.0,
      past-repeated c.self.inside.latest.0 c.args.ticket.0 c.args.now c.args.path c.args.wait
          (values c.self.inside.commands) _ later c.repeat.ensures.values c.self.invariant.1,
      c.self.invariant.2,
    )

pub returns-clause-value : goal.returns-clause-value
returns-clause-value c =
    change-value (values c.self.inside.commands) c.self.view_is c.args.now.0 c.args.ticket.0
    (after_repeat c.args.now c.args.path c.args.wait) _ c.requires c.repeat.ensures.values

pub returns-clause-recalls : goal.returns-clause-recalls
returns-clause-recalls c = λ sent recalls.
    recalls-change c.args.self.now _ sent c.args.ticket.0 (after_repeat c.args.now c.args.path c.args.wait) c.args.now.0
    (returns-clause-value c) recalls c.requires
