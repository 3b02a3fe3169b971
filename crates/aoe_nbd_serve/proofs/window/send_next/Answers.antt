use Rattle.std.proofs.Common.{◌≡◌, List}
use Rattle.aoe_initiator.specs.Host.{Matches}
use Rattle.aoe_initiator.specs.HostLog.{Event}
use Rattle.aoe_block.proofs.SendLemmas.{pulls, when-none}
use Rattle.aoe_nbd_serve.proofs.WindowLemmas.{sends-nothing, sends-pulled}
use Rattle.aoe_nbd_serve.proofs.window.send_next.Goals as goal

pub returns-then-is_none-clause-sends : goal.returns-then-is_none-clause-sends
returns-then-is_none-clause-sends g c =
    let a = c.pull.ensures in
    let host = c.args.host.now in
    let after = c.pull.new.self in
    sends-nothing (g.L.Link.taken c.args.link.now)
    (when-none ((log : List Event) → Matches log host → Matches log after) c.pull.result c.if-is_none.ensures a.stays)
    (record { same = a.same.0; last = a.same.2 }) a.same.3 (when-none (after.flight.last_tag ≡ host.flight.last_tag) c.pull.result c.if-is_none.ensures a.no_tag)

pub returns-in-Ok-clause-sends : goal.returns-in-Ok-clause-sends
returns-in-Ok-clause-sends g c =
    let a = c.pull.ensures in
    let p = pulls c.args.host.now c.pull.new.self c.pull.new.out.items c.pull.result c.if-is_none.ensures a.next a.frame a.path a.sends a.tag
    (record { same = a.same.0; last = a.same.2 }) a.same.3 in
    sends-pulled p.1 (rw (← c.as_slice.ensures.value) c.in-Ok.ensures.took)

pub returns-then-is_none-clause-held : goal.returns-then-is_none-clause-held
returns-then-is_none-clause-held g c = record { same = c.pull.ensures.same.0; last = c.pull.ensures.same.2 }

pub returns-in-Ok-clause-held : goal.returns-in-Ok-clause-held
returns-in-Ok-clause-held g c = record { same = c.pull.ensures.same.0; last = c.pull.ensures.same.2 }

pub returns-in-Err-clause-held : goal.returns-in-Err-clause-held
returns-in-Err-clause-held g c = record { same = c.pull.ensures.same.0; last = c.pull.ensures.same.2 }
