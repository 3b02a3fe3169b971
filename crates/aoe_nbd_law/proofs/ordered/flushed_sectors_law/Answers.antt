use Rattle.aoe_nbd_law.proofs.OrderLemmas.{Order}
use Rattle.aoe_nbd_law.proofs.ValueLemmas.{crash-keeps, stays-safe, stays-sure}
use Rattle.aoe_nbd_law.proofs.ordered.flushed_sectors_law.Goals as goal

pub returns-clause-keeps : goal.returns-clause-keeps
returns-clause-keeps c s host slot h run sector n x asks last dev lists how =
    let e = c.host_commands_law.ensures in
    let law : Order s host = record { list = e.commands s host; bounds = e.sent_once_submitted s host; done = e.done_once_sent s host; order = e.in_order s host } in
    crash-keeps host slot h sector dev lists how
    (rw x.order (stays-safe law slot sector n x.name x.earlier x.own x.later (rw x.order at run) (rw x.order at asks) (rw x.order at last)))

pub returns-clause-sure : goal.returns-clause-sure
returns-clause-sure c s host slot h run sector n x asks last sure whole =
    let e = c.host_commands_law.ensures in
    let law : Order s host = record { list = e.commands s host; bounds = e.sent_once_submitted s host; done = e.done_once_sent s host; order = e.in_order s host } in
    rw x.order (stays-sure law slot sector n x.name x.earlier x.own x.later (rw x.order at run) (rw x.order at asks) (rw x.order at last) sure whole)
