use Rattle.std.proofs.Common.{ℕ, List, ◌≡◌, ◌+◌, ap, arith, ◌∙◌, refl}
use Rattle.aoe_initiator.specs.Host.{Matches}
use Rattle.aoe_initiator.specs.HostLaw.{IsQuiet}
use Rattle.aoe_initiator.specs.HostLog.{commands, Event}
use Rattle.aoe_block.proofs.SendLemmas.{pulls, sends-all, sends-fail, sends-full, sends-more, sends-none, when-none}
use Rattle.aoe_block.proofs.link.send_due.Goals as goal

pub frames-init : goal.frames-init
frames-init g c = record { sent = sends-none c.args.host.now (g.L.Link.taken c.args.link.now); given = refl; turns = refl; faults = refl }

pub returns-then-is_none-clause-sends : goal.returns-then-is_none-clause-sends
returns-then-is_none-clause-sends g c =
    let same = c.pull.ensures.same in
    let so = c.frames.invariant.sent in
    sends-all so.0 (omega (arith, so.1, c.frames-test.true))
    (when-none ((log : List Event) → Matches log c.frames.host → IsQuiet c.frames.host (commands log)) c.pull.result c.if-is_none.ensures
    c.pull.ensures.quiet)
    (when-none ((log : List Event) → Matches log c.frames.host → Matches log c.pull.new.self) c.pull.result c.if-is_none.ensures c.pull.ensures.stays)
    (record { same = same.0; last = same.2 }) same.3
    (when-none (c.pull.new.self.flight.last_tag ≡ c.frames.host.flight.last_tag) c.pull.result c.if-is_none.ensures c.pull.ensures.no_tag)

pub returns-in-Err-clause-sends : goal.returns-in-Err-clause-sends
returns-in-Err-clause-sends g c = sends-fail c.frames.invariant.sent.0 c.in-Err.ensures.err

pub frames-preserved : goal.frames-preserved
frames-preserved g c =
    let a = c.pull.ensures in
    let p = pulls c.frames.host c.pull.new.self c.pull.new.out.items c.pull.result c.if-is_none.ensures a.next a.frame a.path a.sends a.tag
    (record { same = a.same.0; last = a.same.2 }) a.same.3 in
    let i = c.frames.invariant in
    let more = sends-more i.sent.0 p.1 _ (rw (← c.as_slice.ensures.value) c.in-Ok.ensures.took) in
    record {
      sent = (more.0, more.1 ∙ ap (λ (n : ℕ). n + 1) i.sent.1);
      given = c.send.ensures.given ∙ i.given;
      turns = c.send.ensures.turns ∙ i.turns;
      faults = c.in-Ok.ensures.no_fault ∙ i.faults;
    }

pub returns-clause-sends : goal.returns-clause-sends
returns-clause-sends g c =
    let so = c.frames.invariant.sent in
    sends-full so.0 (omega (arith, so.1, c.frames-test.false, c.frames.auto.counter-end))
