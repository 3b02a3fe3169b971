use Rattle.aoe_nbd_law.proofs.OrderLemmas.{Order}
use Rattle.aoe_nbd_law.proofs.ValueLemmas.{read-gives}
use Rattle.aoe_nbd_law.proofs.ordered.ordered_reads_law.Goals as goal

pub returns : goal.returns
returns c s host slot h run there sector n w span bytes x asks inside al sure ack lt =
    let e = c.host_commands_law.ensures in
    let law : Order s host = record { list = e.commands s host; bounds = e.sent_once_submitted s host; done = e.done_once_sent s host; order = e.in_order s host } in
    rw x.order (read-gives law (c.read_law.ensures s) slot there sector n w span bytes x.later x.name x.earlier (rw x.order at run) x.own
    ack.value (rw x.order at asks) inside (rw x.order at al) sure (rw x.order at ack.writes_it) (rw x.order at ack.acknowledged) lt)
