use Rattle.std.proofs.Common.{arith}
use Rattle.aoe_initiator.proofs.WorkLemmas.{counted-all, counted-more, counted-none}
use Rattle.aoe_initiator.proofs.initiator.Initiator.flying.Goals as goal

pub flying-init : goal.flying-init
flying-init c = counted-none c.args.self.now

pub flying-smaller : goal.flying-smaller
flying-smaller c = omega (arith, c.in-Some.ensures.above, c.in-Some.ensures.given)

pub flying-preserved : goal.flying-preserved
flying-preserved c =
    counted-more c.args.self.now c.flying.commands c.flying.sectors c.flying.last.0 c.in-Some.ticket.0 c.in-Some.count c.saturating_add-sectors.result
    c.flying.invariant c.in-Some.ensures.above c.in-Some.ensures.given c.in-Some.ensures.some (rw c.from.ensures at c.saturating_add-sectors.ensures)

pub returns : goal.returns
returns c = record {
  count = counted-all c.args.self.now c.flying.commands c.flying.sectors c.flying.last.0 c.flying.invariant c.in_default.ensures.none;
}
