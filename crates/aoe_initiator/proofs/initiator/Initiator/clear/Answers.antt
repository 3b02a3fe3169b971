use Rattle.std.proofs.Common.{None, Some, refl, sym, ◌∙◌}
use Rattle.aoe_initiator.proofs.MatchLemmas.{matches-cleared}
use Rattle.aoe_initiator.proofs.SoundLemmas.{sound-cleared, times-of}
use Rattle.aoe_initiator.proofs.initiator.Initiator.clear.Goals as goal

pub invariant_of-self : goal.invariant_of-self
invariant_of-self c = rw c.next_clear.ensures.value (sound-cleared c.self.invariant)

pub invariant_of-self-in_err-at : goal.invariant_of-self-in_err-at
invariant_of-self-in_err-at c = rw c.next_clear.ensures.value (sound-cleared c.self.invariant)

pub invariant_of-self-2 : goal.invariant_of-self-2
invariant_of-self-2 c = rw c.next_clear.ensures.value (sound-cleared c.self.invariant)

pub returns-in_err-ticket-clause-stays : goal.returns-in_err-ticket-clause-stays
returns-in_err-ticket-clause-stays c = λ log m.
    matches-cleared log _ _ (rw (← c.self.view_is) at m)
    (times-of c.self.inside.clock.0 c.self.inside.last_ticket.0 c.self.inside.devices.items c.self.invariant.attached) c.next_clear.ensures.value

pub returns-in_err-at-clause-stays : goal.returns-in_err-at-clause-stays
returns-in_err-at-clause-stays c = λ log m.
    matches-cleared log _ _ (rw (← c.self.view_is) at m)
    (times-of c.self.inside.clock.0 c.self.inside.last_ticket.0 c.self.inside.devices.items c.self.invariant.attached) c.next_clear.ensures.value

pub returns-clause-stays : goal.returns-clause-stays
returns-clause-stays c = λ log m.
    matches-cleared log _ _ (rw (← c.self.view_is) at m)
    (times-of c.self.inside.clock.0 c.self.inside.last_ticket.0 c.self.inside.devices.items c.self.invariant.attached) c.next_clear.ensures.value

pub returns-in_err-ticket-clause-none : goal.returns-in_err-ticket-clause-none
returns-in_err-ticket-clause-none c = rw c.from_residual.ensures (rw (← c.self.view_is) (λ room. (None, c.in_err-ticket.ensures.lowest, tt)))

pub returns-in_err-at-clause-none : goal.returns-in_err-at-clause-none
returns-in_err-at-clause-none c =
    rw c.from_residual-in_err-at.ensures
    (rw (← c.self.view_is) (λ room. (Some c.in_ok-ticket.ticket, c.in_ok-ticket.ensures.lowest, sym c.place_of.ensures ∙ c.in_err-at.was)))

pub returns-clause-lowest : goal.returns-clause-lowest
returns-clause-lowest c = rw (← c.self.view_is) c.in_ok-ticket.ensures.lowest

pub is_full-requires : goal.is_full-requires
is_full-requires c = c.self.invariant.time

pub next_clear-requires : goal.next_clear-requires
next_clear-requires c = times-of c.self.inside.clock.0 c.self.inside.last_ticket.0 c.self.inside.devices.items c.self.invariant.attached

pub place_of-requires : goal.place_of-requires
place_of-requires c = c.self.invariant.order

pub returns-in_err-ticket-clause-same : goal.returns-in_err-ticket-clause-same
returns-in_err-ticket-clause-same c = rw (← c.self.view_is) refl

pub returns-in_err-at-clause-same : goal.returns-in_err-at-clause-same
returns-in_err-at-clause-same c = rw (← c.self.view_is) refl

pub returns-clause-same : goal.returns-clause-same
returns-clause-same c = rw (← c.self.view_is) refl
