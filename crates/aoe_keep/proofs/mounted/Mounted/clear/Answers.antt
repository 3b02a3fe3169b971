use Rattle.std.proofs.Common.{◌≡◌, true, is_err, arith}
use Rattle.aoe_keep.proofs.Making.{clears_failed, clears_done}
use Rattle.std.proofs.lemmas.Result.{on_err_weaker, on_ok_weaker}
use Rattle.aoe_keep.proofs.Calls.{cleared_err, cleared_ok}
use Rattle.aoe_keep.proofs.Others.{sync_others, others_then}
use Rattle.aoe_keep.proofs.mounted.Mounted.clear.Goals as goal

pub returns-clause-err : goal.returns-clause-err
returns-clause-err g c =
    let closed : c.close_gate.new.self.is_closed ≡ true = c.in_ok-close_gate.ensures.closed in
    on_err_weaker c.sync.result (λ told.
    record { lists = c.close_gate.ensures.kept.lists; room = omega (arith, c.close_gate.ensures.kept.room, c.sync.ensures.call.sectors); disk = told })
    (cleared_err c.close_gate.new.self.place c.close_gate.new.self.lists c.args.next.now c.close_gate.new.self.is_closed c.sync.result _ _ _ closed
    c.close_gate.ensures.kept.disk c.sync.ensures.contents)

pub returns-clause-ok : goal.returns-clause-ok
returns-clause-ok g c =
    let closed : c.close_gate.new.self.is_closed ≡ true = c.in_ok-close_gate.ensures.closed in
    on_ok_weaker c.sync.result (λ told.
    record { room = omega (arith, c.close_gate.ensures.kept.room, c.sync.ensures.call.sectors); closed = closed; disk = told })
    (cleared_ok c.close_gate.new.self.place c.close_gate.new.self.lists c.args.next.now c.close_gate.new.self.is_closed c.sync.result _ _ _ closed
    c.close_gate.ensures.kept.disk c.sync.ensures.contents)

pub returns-clause-others : goal.returns-clause-others
returns-clause-others g c = others_then _ _ _ c.close_gate.ensures.others (sync_others c.sync.result _ _ c.sync.ensures.contents)

pub returns-in_err-close_gate-clause-calls : goal.returns-in_err-close_gate-clause-calls
returns-in_err-close_gate-clause-calls g c =
    clears_failed g.D.Disk.state c.close_gate.result _
    (is_err c.from_residual.result) c.args.self.now c.close_gate.new.self c.in_err-close_gate.was c.from_residual.ensures.0 c.close_gate.ensures.known
    c.close_gate.ensures.log

pub returns-clause-calls : goal.returns-clause-calls
returns-clause-calls g c =
    clears_done g.D.Disk.state (is_err c.sync.result) c.args.self.now _
    (g.D.Disk.state c.close_gate.new.self.disk) c.in_ok-close_gate.ensures.closed c.close_gate.ensures.log c.sync.ensures.log
