use Rattle.std.proofs.Common.{None, ◌<◌, length, ap, arith}
use Rattle.aoe_flight.specs.FlightTable.{FlightTable}
use Rattle.aoe_initiator.specs.declared.outcome.Done.{Done}
use Rattle.aoe_initiator.specs.declared.outcome.Outcome.TheVariants.{GaveUp}
use Rattle.aoe_initiator.specs.declared.pending.Pending.{Pending}
use Rattle.aoe_initiator.proofs.SoundLemmas.{sound-closed}
use Rattle.aoe_initiator.proofs.StepLemmas.{closes-from}
use Rattle.aoe_initiator.proofs.initiator.Initiator.give_up.Goals as goal

pub invariant_of-self : goal.invariant_of-self
invariant_of-self c =
    let p : Pending = c.close-command.result in
    let done : Done = record { ticket = p.ticket; outcome = GaveUp c.flying.result.first c.self.inside.clock } in
    let inside : c.args.at < length c.self.inside.pending.items = rw (← c.self.view_is) at c.requires.there in
    let time = ap (λ (t : FlightTable). t.latest) c.close-command.ensures.flight in
    rw (c.close-command.ensures.devices, c.close-command.ensures.pending, c.push_back_reserved.ensures.items, c.push_back_reserved.ensures.capacity)
    (sound-closed c.self.invariant p.device.0 c.args.at p.ticket None done c.close-command.new.flight (omega (arith, time, c.self.invariant.time)) inside)

pub returns : goal.returns
returns c =
    let p : Pending = c.close-command.result in
    let inside : c.args.at < length c.self.inside.pending.items = rw (← c.self.view_is) at c.requires.there in
    rw (← c.self.view_is) (
      c.flying.result,
      c.flying.ensures.value,
      closes-from _ c.args.at p None (GaveUp c.flying.result.first c.self.inside.clock) _ _ _ _ inside c.close-command.ensures.command
          c.close-command.ensures.flight c.close-command.ensures.devices c.close-command.ensures.pending c.push_back_reserved.ensures.items,
    )
