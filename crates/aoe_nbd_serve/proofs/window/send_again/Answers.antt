use Rattle.std.proofs.Common.{◌≡◌}
use Rattle.aoe_nbd_serve.proofs.WindowLemmas.{pulls-again, sends-none-pulled, sends-pulled}
use Rattle.aoe_block.proofs.SendLemmas.{when-none}
use Rattle.aoe_nbd_serve.proofs.window.send_again.Goals as goal

pub returns-then-is_none-clause-sends : goal.returns-then-is_none-clause-sends
returns-then-is_none-clause-sends g c =
    let same =
    when-none (c.pull_again.new.self ≡ c.args.host.now) c.pull_again.result c.if-is_none.ensures c.pull_again.ensures.unchanged in
    sends-none-pulled same (g.L.Link.taken c.args.link.now)

pub returns-in-Ok-clause-sends : goal.returns-in-Ok-clause-sends
returns-in-Ok-clause-sends g c =
    let a = c.pull_again.ensures in
    let p = pulls-again c.args.host.now c.pull_again.new.self c.pull_again.new.out.items c.pull_again.result c.if-is_none.ensures a.repeat a.again a.frame a.path a.sends
    a.no_tag (record { same = a.same.0; last = a.same.2 }) a.same.3 in
    sends-pulled p.1 (rw (← c.as_slice.ensures.value) c.in-Ok.ensures.took)

pub returns-then-is_none-clause-held : goal.returns-then-is_none-clause-held
returns-then-is_none-clause-held g c = record { same = c.pull_again.ensures.same.0; last = c.pull_again.ensures.same.2 }

pub returns-in-Ok-clause-held : goal.returns-in-Ok-clause-held
returns-in-Ok-clause-held g c = record { same = c.pull_again.ensures.same.0; last = c.pull_again.ensures.same.2 }

pub returns-in-Err-clause-held : goal.returns-in-Err-clause-held
returns-in-Err-clause-held g c = record { same = c.pull_again.ensures.same.0; last = c.pull_again.ensures.same.2 }
