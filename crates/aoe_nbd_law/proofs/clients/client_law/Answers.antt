use Rattle.aoe_initiator.specs.declared.op.Op.TheVariants as op
use Rattle.aoe_initiator.specs.declared.outcome.Outcome.TheVariants as outcome
use Rattle.aoe_nbd_law.proofs.ClientLemmas.{acknowledged, asks-at, earlier-ticket, has-ended, w, wrote, wrote-own}
use Rattle.aoe_nbd_law.specs.Requests.{last_before}
use Rattle.aoe_nbd_law.proofs.OrderLemmas.{Order}
use Rattle.aoe_nbd_law.proofs.clients.client_law.Goals as goal

pub returns-clause-reads : goal.returns-clause-reads
returns-clause-reads c s host slot h setting steps v reply earlier sector al x reads inside y writes inside-y =
    let e = c.host_commands_law.ensures in
    let law : Order s host = record { list = e.commands s host; bounds = e.sent_once_submitted s host; done = e.done_once_sent s host; order = e.in_order s host } in
    let askable = e.askable s host h v.lawful in
    let r = x.read reads sector inside in
    let ended = has-ended law askable v r.ticket (outcome.Read r.bytes) r.carried_out.settled in
    let asks = asks-at law askable v r.ticket (op.Read r.span) r.carried_out.handed in
    let written = w law askable v sector x y writes inside-y in
    record {
      wrote = wrote law askable v sector x y writes inside-y;
      bytes = r.bytes;
      ended = ended;
      gives = λ sure.
          let since = c.ordered_reads_law.ensures s host slot h v.lawful v.there sector r.ticket.0 written.ticket.0 r.span r.bytes ended asks r.inside al sure
          (acknowledged law askable v sector x y writes inside-y) (earlier-ticket law askable v sector x y writes inside-y r.ticket r.behind) in
          rw r.same since;
    }

pub returns-clause-outlives : goal.returns-clause-outlives
returns-clause-outlives c s host slot h setting steps v reply earlier sector x lasts y writes inside-y =
    let e = c.host_commands_law.ensures in
    let law : Order s host = record { list = e.commands s host; bounds = e.sent_once_submitted s host; done = e.done_once_sent s host; order = e.in_order s host } in
    let askable = e.askable s host h v.lawful in
    let f = x.flushed lasts in
    let ended = has-ended law askable v f.ticket outcome.Flushed f.carried_out.settled in
    let asks = asks-at law askable v f.ticket op.Flush f.carried_out.handed in
    let written = w law askable v sector x y writes inside-y in
    record {
      wrote = wrote law askable v sector x y writes inside-y;
      behind = earlier-ticket law askable v sector x y writes inside-y f.ticket f.behind;
      ended = ended;
      keeps = λ last dev lists how. c.flushed_sectors_law.ensures.keeps s host slot h v.lawful sector f.ticket.0 ended asks last dev lists how;
      sure = λ last sure whole. c.flushed_sectors_law.ensures.sure s host slot h v.lawful sector f.ticket.0 ended asks last sure whole;
    }

pub returns-clause-lasting : goal.returns-clause-lasting
returns-clause-lasting c s host slot h setting steps v reply sector x lasts writes inside =
    let e = c.host_commands_law.ensures in
    let law : Order s host = record { list = e.commands s host; bounds = e.sent_once_submitted s host; done = e.done_once_sent s host; order = e.in_order s host } in
    let askable = e.askable s host h v.lawful in
    let f = x.flushed lasts in
    let z = x.written writes sector inside in
    let ended = has-ended law askable v f.ticket outcome.Flushed f.carried_out.settled in
    let asks = asks-at law askable v f.ticket op.Flush f.carried_out.handed in
    record {
      wrote = wrote-own law askable v (last_before x.come) x.asked sector z;
      behind = x.in_order lasts writes sector inside;
      ended = ended;
      keeps = λ last dev lists how. c.flushed_sectors_law.ensures.keeps s host slot h v.lawful sector f.ticket.0 ended asks last dev lists how;
      sure = λ last sure whole. c.flushed_sectors_law.ensures.sure s host slot h v.lawful sector f.ticket.0 ended asks last sure whole;
    }
