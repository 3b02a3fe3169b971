use Rattle.aoe_base.proofs.CommonLemmas.{on-err}
use Rattle.aoe_sim_hosts.proofs.TurnLemmas.{turn-full, turn-over, turn-sends, turn-tells}
use Rattle.aoe_sim_hosts.proofs.host.SimHost.turn.Goals as goal
use Rattle.aoe_history.proofs.LogicLemmas.{on-ok}

pub returns-clause-ok : goal.returns-clause-ok
returns-clause-ok c = on-ok c.send_all.result c.send_all.ensures.ok (λ over s host got waits lawful.
    let tells = c.in_ok-catch_up.ensures.ok s host got waits lawful in
    let sent = c.send_all.ensures.some s host tells.settled tells.lawful in
    let rest = over s host tells.settled tells.lawful in
    (turn-over tells c.send_all.new.run.entries sent rest.1, sent.lawful, rest.0))

pub returns-clause-err : goal.returns-clause-err
returns-clause-err c = on-err c.send_all.result (λ s host got waits lawful.
    let tells = c.in_ok-catch_up.ensures.ok s host got waits lawful in
    turn-sends tells c.send_all.new.run.entries (c.send_all.ensures.some s host tells.settled tells.lawful))

pub returns-clause-full : goal.returns-clause-full
returns-clause-full c = λ limit full s host got waits lawful.
    let tells = c.in_ok-catch_up.ensures.ok s host got waits lawful in
    turn-full tells c.send_all.new.run.entries (c.send_all.ensures.full limit full s host tells.settled tells.lawful)

pub returns-in_err-catch_up-clause-err : goal.returns-in_err-catch_up-clause-err
returns-in_err-catch_up-clause-err c = on-err c.from_residual.result (λ s host got waits lawful.
    turn-tells waits (c.in_err-catch_up.ensures.err s host got waits lawful))
