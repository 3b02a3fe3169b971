use Rattle.std.proofs.Common.{◌-◌}
use Rattle.aoe_initiator.proofs.WorkLemmas.{IsCounted}
use Rattle.aoe_initiator.proofs.initiator.Initiator.flying.Given as goal

abbrev pub invariant-flying : goal.invariant-flying
invariant-flying l = IsCounted l.self l.commands l.sectors l.last.0

abbrev pub decreases-flying : goal.decreases-flying
decreases-flying l = l.self.last_ticket - l.last.0
