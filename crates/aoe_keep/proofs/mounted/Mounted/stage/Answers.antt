use Rattle.std.proofs.Common.{◌∙◌, ℕ, Some, is_err, arith, ap}
use Rattle.aoe_base.proofs.CommonLemmas.{on-err}
use Rattle.aoe_disk.specs.State.{Sync}
use Rattle.aoe_keep.specs.declared.body.Written.{Written}
use Rattle.aoe_keep.specs.Calls.{write_body}
use Rattle.aoe_keep.proofs.Making.{makes_first, makes_two}
use Rattle.std.proofs.lemmas.Result.{on_ok_weaker}
use Rattle.aoe_keep.specs.Body.{decode, format_2, spelling}
use Rattle.aoe_keep.proofs.Calls.{body_step, sync_step, staged_ok}
use Rattle.aoe_keep.proofs.Runs.{run_ends}
use Rattle.aoe_keep.proofs.Others.{sync_others, others_then}
use Rattle.aoe_keep.proofs.mounted.Mounted.stage.Goals as goal

pub returns-in_err-write_body-clause-err : goal.returns-in_err-write_body-clause-err
returns-in_err-write_body-clause-err g c = on-err c.from_residual.result (record {
  room = omega (arith, c.requires.room, c.write_body.ensures.call.sectors);
  closed = c.requires.closed;
  disk = body_step c.args.self.now.place c.args.self.now.lists c.args.next.now c.spare_slot.result c.as_slice.result.now c.write_body.result _ _
      c.spare_slot.ensures.slot c.requires.disk c.write_body.ensures.body;
})

pub returns-clause-err : goal.returns-clause-err
returns-clause-err g c = on-err c.sync.result (record {
  room = omega (arith, c.requires.room, c.write_body.ensures.call.sectors, c.sync.ensures.call.sectors);
  closed = c.requires.closed;
  disk = sync_step c.args.self.now.place c.args.self.now.lists c.args.next.now c.sync.result _ _
      (body_step c.args.self.now.place c.args.self.now.lists c.args.next.now c.spare_slot.result c.as_slice.result.now c.write_body.result _ _
      c.spare_slot.ensures.slot c.requires.disk c.write_body.ensures.body) c.sync.ensures.contents;
})

pub returns-clause-ok : goal.returns-clause-ok
returns-clause-ok g c =
    on_ok_weaker c.sync.result (λ told.
    record { room = omega (arith, c.requires.room, c.write_body.ensures.call.sectors, c.sync.ensures.call.sectors); disk = told })
    (staged_ok c.args.self.now.place c.args.self.now.lists c.args.next.now c.spare_slot.result c.as_slice.result.now c.write_body.result _ c.sync.result _ _ _
    c.in_ok-write_body.was c.spare_slot.ensures.slot
    (ap decode c.as_slice.ensures.value ∙ c.spell-body.ensures.read
    ∙ ap (λ (t : ℕ). let w : Written = record { format = format_2.number; turn = t; lists = c.args.next.now } in Some w) c.spare_turn.ensures.turn)
    c.requires.disk c.write_body.ensures.body c.sync.ensures.contents)

pub returns-in_err-write_body-clause-run : goal.returns-in_err-write_body-clause-run
returns-in_err-write_body-clause-run g c = run_ends 1 2 c.write_body.result _ _ _ _ c.in_err-write_body.was c.from_residual.ensures.0
    (omega arith) c.write_body.ensures.call

pub returns-clause-others : goal.returns-clause-others
returns-clause-others g c = others_then _ _ _ c.write_body.ensures.others (sync_others c.sync.result _ _ c.sync.ensures.contents)

pub returns-in_err-write_body-clause-calls : goal.returns-in_err-write_body-clause-calls
returns-in_err-write_body-clause-calls g c =
    let body = c.as_slice.ensures.value ∙ c.spell-body.ensures.items ∙ (λ i. spelling format_2 (c.spare_turn.ensures.turn i) c.args.next.now) in
    let log = rw (c.spare_slot.ensures.slot, body) at c.write_body.ensures.log in
    makes_first (write_body c.args.self.now.place c.args.next.now) Sync _ (g.D.Disk.state c.args.self.now.disk)
    (g.D.Disk.state c.write_body.new.disk) c.from_residual.ensures.0 log

pub returns-clause-calls : goal.returns-clause-calls
returns-clause-calls g c =
    let body = c.as_slice.ensures.value ∙ c.spell-body.ensures.items ∙ (λ i. spelling format_2 (c.spare_turn.ensures.turn i) c.args.next.now) in
    let log = rw (c.spare_slot.ensures.slot, body) at c.write_body.ensures.log in
    makes_two (write_body c.args.self.now.place c.args.next.now) Sync (is_err c.sync.result) (g.D.Disk.state c.args.self.now.disk)
    (g.D.Disk.state c.write_body.new.disk) (g.D.Disk.state c.sync.new.self) log c.sync.ensures.log
