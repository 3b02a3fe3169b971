use Rattle.std.proofs.Common.{◌≡◌, ◌++◌, List, ◌∷◌, length, max, reverse}
use Rattle.aoe_initiator.specs.declared.outcome.Done.{Done}
use Rattle.aoe_initiator.specs.Host.{IsSame, Matches}
use Rattle.aoe_initiator.specs.HostLaw.{ended, GaveUpInTurn}
use Rattle.aoe_initiator.specs.HostLog.{Event}
use Rattle.aoe_initiator.specs.HostLog.Event.{Advances}
use Rattle.aoe_initiator.proofs.initiator.Initiator.advance.Given as goal

abbrev pub invariant-expired : goal.invariant-expired
invariant-expired l = record {
  clock : l.self.clock ≡ max l.fn.self.clock l.fn.now.0;
  same : IsSame l.fn.self l.self;
  last : l.self.last_ticket ≡ l.fn.self.last_ticket;
  tag : l.self.flight.last_tag ≡ l.fn.self.flight.last_tag;
  gives_up : (dones : List Done) × (l.self.waiting ≡ l.fn.self.waiting ++ reverse dones)
      × ((log : List Event) → Matches log l.fn.self → GaveUpInTurn l.fn.self.dead l.self.clock (Advances l.fn.now ∷ log) dones
      × Matches (ended dones (Advances l.fn.now ∷ log)) l.self);
}

abbrev pub decreases-expired : goal.decreases-expired
decreases-expired l = length l.self.pending
