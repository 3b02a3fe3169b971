use Rattle.std.proofs.lemmas.Option.{IfSome_then}
use Rattle.std.proofs.Common.{ap}
use Rattle.aoe_base.proofs.CommonLemmas.{if-none}
use Rattle.aoe_initiator.specs.declared.step.Sent.{Sent}
use Rattle.aoe_initiator.specs.HostLog.{commands, sent_of}
use Rattle.aoe_initiator.proofs.ClearLemmas.{due-flies}
use Rattle.aoe_initiator.proofs.RepeatLemmas.{idle-none, left-repeated, repeat-frame, repeat-next, repeat-none, repeat-path, repeat-sends, repeat-tag, IsFirstDue, IsIdle}
use Rattle.aoe_initiator.proofs.initiator.Initiator.pull_again.Goals as goal

pub repeat-requires : goal.repeat-requires
repeat-requires c = rw (← c.self.view_is) (due-flies c.self.inside.clock.0 c.self.inside.flight c.in_ok-ticket.ticket c.in_ok-ticket.ensures.first)

pub returns-in_err-ticket-clause-none : goal.returns-in_err-ticket-clause-none
returns-in_err-ticket-clause-none c =
    let idle : IsIdle c.args.self.now = rw (← c.self.view_is) c.in_err-ticket.ensures.none_sent in
    if-none c.from_residual.result _ (idle-none c.args.self.now idle)

pub returns-clause-repeat : goal.returns-clause-repeat
returns-clause-repeat c =
    let first : IsFirstDue c.args.self.now c.in_ok-ticket.ticket = rw (← c.self.view_is) c.in_ok-ticket.ensures.first_sent in
    IfSome_then c.repeat.result c.repeat.ensures.sent (λ sent repeats log m. repeat-next m repeats (first (sent_of (commands log)) m.sent))

pub returns-clause-again : goal.returns-clause-again
returns-clause-again c = IfSome_then c.repeat.result c.repeat.ensures.sent (λ sent repeats. ap (λ (s : Sent). s.again) repeats.is)

pub returns-clause-frame : goal.returns-clause-frame
returns-clause-frame c = IfSome_then c.repeat.result c.repeat.ensures.sent (λ sent repeats log m. repeat-frame m repeats)

pub returns-clause-path : goal.returns-clause-path
returns-clause-path c = IfSome_then c.repeat.result c.repeat.ensures.sent (λ sent repeats log m. repeat-path m repeats)

pub returns-clause-sends : goal.returns-clause-sends
returns-clause-sends c = IfSome_then c.repeat.result c.repeat.ensures.sent (λ sent repeats log m. repeat-sends m repeats c.repeat.ensures.in_time)

pub returns-clause-none : goal.returns-clause-none
returns-clause-none c =
    repeat-none c.repeat.result c.args.self.now c.in_ok-ticket.ticket c.repeat.ensures.none (rw (← c.self.view_is) c.in_ok-ticket.ensures.first_sent)

pub returns-clause-same : goal.returns-clause-same
returns-clause-same c =
    let left = left-repeated c.args.self.now _ c.in_ok-ticket.ticket _ c.repeat.result c.repeat.ensures.sent c.repeat.ensures.unchanged in
    (left.same, left.clock, left.last, left.waiting)

pub returns-clause-no_tag : goal.returns-clause-no_tag
returns-clause-no_tag c = repeat-tag c.repeat.result c.args.self.now _ c.in_ok-ticket.ticket _ c.repeat.ensures.sent c.repeat.ensures.unchanged
