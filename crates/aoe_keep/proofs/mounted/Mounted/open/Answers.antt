use Rattle.std.proofs.Common.{arith, true, is_err}
use Rattle.aoe_base.proofs.CommonLemmas.{on-err}
use Rattle.aoe_disk.specs.State.{Sync}
use Rattle.aoe_keep.specs.Calls.{write_gate}
use Rattle.aoe_keep.proofs.Making.{makes_first, makes_two}
use Rattle.std.proofs.lemmas.Result.{on_ok_weaker}
use Rattle.aoe_keep.proofs.Calls.{open_err, opened_err, opened_ok}
use Rattle.aoe_keep.proofs.Runs.{run_ends}
use Rattle.aoe_keep.proofs.Others.{sync_others, others_then}
use Rattle.aoe_keep.proofs.mounted.Mounted.open.Goals as goal

pub returns-in_err-write_gate-clause-err : goal.returns-in_err-write_gate-clause-err
returns-in_err-write_gate-clause-err g c = on-err c.from_residual.result (record {
  room = omega (arith, c.requires.room, c.write_gate.ensures.call.sectors);
  disk = rw c.in_err-write_gate.was at
      (open_err c.args.self.now.place c.args.self.now.lists c.args.next.now _ c.spare_slot.result c.write_gate.result _ _ c.spare_slot.ensures.slot
      c.requires.disk c.write_gate.ensures.gate);
})

pub returns-clause-err : goal.returns-clause-err
returns-clause-err g c = on-err c.sync.result (record {
  room = omega (arith, c.requires.room, c.write_gate.ensures.call.sectors, c.sync.ensures.call.sectors);
  disk = opened_err c.args.self.now.place c.args.self.now.lists c.args.next.now _ c.spare_slot.result c.write_gate.result _ c.sync.result _ _ _
      c.in_ok-write_gate.was c.spare_slot.ensures.slot c.requires.disk c.write_gate.ensures.gate c.sync.ensures.contents;
})

pub returns-clause-ok : goal.returns-clause-ok
returns-clause-ok g c =
    on_ok_weaker c.sync.result (λ told.
    record { room = omega (arith, c.requires.room, c.write_gate.ensures.call.sectors, c.sync.ensures.call.sectors); disk = told })
    (opened_ok c.args.self.now.place c.args.self.now.lists c.args.next.now _ c.spare_slot.result c.write_gate.result _ c.sync.result _ _ _
    c.in_ok-write_gate.was c.spare_slot.ensures.slot c.requires.disk c.write_gate.ensures.gate c.sync.ensures.contents)

pub returns-in_err-write_gate-clause-run : goal.returns-in_err-write_gate-clause-run
returns-in_err-write_gate-clause-run g c = run_ends 1 2 c.write_gate.result _ _ _ _ c.in_err-write_gate.was c.from_residual.ensures.0
    (omega arith) c.write_gate.ensures.call

pub returns-clause-others : goal.returns-clause-others
returns-clause-others g c = others_then _ _ _ c.write_gate.ensures.others (sync_others c.sync.result _ _ c.sync.ensures.contents)

pub returns-in_err-write_gate-clause-calls : goal.returns-in_err-write_gate-clause-calls
returns-in_err-write_gate-clause-calls g c =
    let log = rw c.spare_slot.ensures.slot at c.write_gate.ensures.log in
    makes_first (write_gate c.args.self.now.place true) Sync _ (g.D.Disk.state c.args.self.now.disk)
    (g.D.Disk.state c.write_gate.new.disk) c.from_residual.ensures.0 log

pub returns-clause-calls : goal.returns-clause-calls
returns-clause-calls g c =
    let log = rw c.spare_slot.ensures.slot at c.write_gate.ensures.log in
    makes_two (write_gate c.args.self.now.place true) Sync (is_err c.sync.result) (g.D.Disk.state c.args.self.now.disk) (g.D.Disk.state c.write_gate.new.disk)
    (g.D.Disk.state c.sync.new.self) log c.sync.ensures.log
