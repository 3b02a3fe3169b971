use Rattle.std.proofs.Common.{◌≡◌, rules}
use Rattle.aoe_initiator.specs.Steps.{InTime}
use Rattle.aoe_initiator.proofs.DeviceLemmas.{ClearFrom}
use Rattle.aoe_initiator.proofs.SoundLemmas.{times-of}
use Rattle.aoe_initiator.proofs.WorkLemmas.{work-from}
use Rattle.aoe_initiator.proofs.initiator.Initiator.work_from.Goals as goal

pub returns : goal.returns
returns c =
    let devices = c.self.inside.devices.items in
    let same : c.deref.result.now ≡ devices = search rules in
    let clear : ClearFrom devices devices c.any_clear_from.result = rw same at c.any_clear_from.ensures in
    let time : InTime c.args.self.now = rw (← c.self.view_is) (record {
      flight = c.self.invariant.time;
      devices = times-of c.self.inside.clock.0 c.self.inside.last_ticket.0 devices c.self.invariant.attached;
    }) in
    record {
      work = λ log m.
          rw (c.min-2.ensures, c.min.ensures, c.max-start.ensures) (work-from m time _ _ _ _ (rw (← c.self.view_is) c.flight_times-times.ensures.due)
          (rw (← c.self.view_is) c.flight_times-times.ensures.expired) (rw (← c.self.view_is) c.flight_times-times.ensures.room)
          (rw (← c.self.view_is) clear));
    }
