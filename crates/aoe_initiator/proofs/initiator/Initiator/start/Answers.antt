use Rattle.aoe_base.proofs.CommonLemmas.{if-none}
use Rattle.aoe_initiator.specs.Steps.{GivesTag}
use Rattle.aoe_initiator.specs.Host.{Host}
use Rattle.std.specs.Prelude.{IfNone, IfSome}
use Rattle.std.proofs.Common.{◌≡◌, ap, subst}
use Rattle.std.proofs.lemmas.Option.{IfSome_then}
use Rattle.aoe_initiator.proofs.ClearLemmas.{quiet-exit}
use Rattle.aoe_initiator.proofs.StartLemmas.{left-cleared, left-launched, left-then, start-frame, start-next-all, start-path, start-quiet, start-sends, IsCleared}
use Rattle.aoe_initiator.proofs.initiator.Initiator.start.Goals as goal

cleared : (c : goal.After-launch) → IsCleared c.args.self.now c.clear.new.self c.in_ok-ticket.ticket c.in_ok-ticket.at
cleared c = record {
  room = c.in_ok-ticket.ensures.some.0;
  found = c.in_ok-ticket.ensures.some.1;
  same = c.clear.ensures.same;
  devices = c.clear.ensures.devices;
  lowest = c.in_ok-ticket.ensures.lowest;
}

pub returns-in_err-ticket-clause-quiet : goal.returns-in_err-ticket-clause-quiet
returns-in_err-ticket-clause-quiet c = quiet-exit c.from_residual.result c.args.self.now c.clear.ensures.in_time c.in_err-ticket.ensures.none

pub returns-in_err-ticket-clause-same : goal.returns-in_err-ticket-clause-same
returns-in_err-ticket-clause-same c =
    let left = left-cleared c.args.self.now c.clear.new.self c.clear.ensures.same c.clear.ensures.devices in
    (left.same, left.clock, left.last, left.waiting)

pub returns-clause-next : goal.returns-clause-next
returns-clause-next c = start-next-all c.launch.result c.args.self.now c.clear.new.self _ c.in_ok-ticket.ticket c.in_ok-ticket.at _ c.clear.ensures.in_time
    (cleared c) c.launch.ensures.sent c.launch.ensures.free

pub returns-clause-frame : goal.returns-clause-frame
returns-clause-frame c = IfSome_then c.launch.result c.launch.ensures.sent
    (λ sent launches log m. start-frame m (cleared c) launches (c.clear.ensures.stays log m))

pub returns-clause-path : goal.returns-clause-path
returns-clause-path c = IfSome_then c.launch.result c.launch.ensures.sent
    (λ sent launches log m. start-path m (cleared c) launches (c.clear.ensures.stays log m))

pub returns-clause-sends : goal.returns-clause-sends
returns-clause-sends c = IfSome_then c.launch.result c.launch.ensures.sent
    (λ sent launches log m. start-sends m (cleared c) launches (c.clear.ensures.stays log m) c.launch.ensures.in_time)

pub returns-clause-quiet : goal.returns-clause-quiet
returns-clause-quiet c = start-quiet c.launch.result c.args.self.now c.clear.new.self c.in_ok-ticket.ticket c.in_ok-ticket.at (cleared c) c.launch.ensures.none

pub returns-clause-same : goal.returns-clause-same
returns-clause-same c =
    let first = left-cleared c.args.self.now c.clear.new.self c.clear.ensures.same c.clear.ensures.devices in
    let second = left-launched c.args.self.now c.clear.new.self _ c.in_ok-ticket.ticket c.in_ok-ticket.at _ c.launch.result
    (cleared c) c.launch.ensures.sent c.launch.ensures.none in
    let left = left-then first second in
    (left.same, left.clock, left.last, left.waiting)

pub returns-in_err-ticket-clause-no_tag : goal.returns-in_err-ticket-clause-no_tag
returns-in_err-ticket-clause-no_tag c = if-none c.from_residual.result _ (ap (λ (h : Host). h.flight.last_tag) c.clear.ensures.same)

pub returns-clause-tag : goal.returns-clause-tag
returns-clause-tag c =
    let P : Host → Type 0 = λ h. IfSome c.launch.result (λ sent. GivesTag sent.again h.flight h.clock sent.tag c.launch.new.self.flight) in
    subst P c.clear.ensures.same c.launch.ensures.tag

pub returns-clause-no_tag : goal.returns-clause-no_tag
returns-clause-no_tag c =
    let P : Host → Type 0 = λ h. IfNone c.launch.result (c.launch.new.self.flight.last_tag ≡ h.flight.last_tag) in
    subst P c.clear.ensures.same c.launch.ensures.no_tag
