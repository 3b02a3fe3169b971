use Rattle.std.proofs.Common.{◌∙◌, true, false, arith}
use Rattle.aoe_base.proofs.CommonLemmas.{on-err}
use Rattle.aoe_keep.proofs.Making.{sync_failed, first_failed, slots_read}
use Rattle.aoe_keep.proofs.Mounting.{slots_told, calm_told}
use Rattle.aoe_keep.proofs.Runs.{runs_within, runs_then, one_run}
use Rattle.aoe_keep.proofs.mount.read_slots.Goals as goal

pub returns-in_err-first-clause-err : goal.returns-in_err-first-clause-err
returns-in_err-first-clause-err g c =
    let sync = one_run (rw c.in_ok-sync.was at c.sync.ensures.call) in
    let first = rw c.in_err-first.was at c.read_slot.ensures.run in
    on-err c.from_residual-in_err-first.result (runs_within (omega arith) (omega arith) (runs_then sync first))

pub returns-in_err-second-clause-err : goal.returns-in_err-second-clause-err
returns-in_err-second-clause-err g c =
    let sync = one_run (rw c.in_ok-sync.was at c.sync.ensures.call) in
    let first = rw c.in_ok-first.was at c.read_slot.ensures.run in
    let second = rw c.in_err-second.was at c.read_slot-2.ensures.run in
    on-err c.from_residual-in_err-second.result (runs_within (omega arith) (omega arith) (runs_then (runs_then sync first) second))

pub returns-in_err-second-clause-calm : goal.returns-in_err-second-clause-calm
returns-in_err-second-clause-calm g c = calm_told _ _ _ c.in_ok-sync.ensures.contents (c.read_slot-2.ensures.same ∙ c.read_slot.ensures.same)

pub returns-clause-ok : goal.returns-clause-ok
returns-clause-ok g c =
    let sync = one_run (rw c.in_ok-sync.was at c.sync.ensures.call) in
    let first = rw c.in_ok-first.was at c.read_slot.ensures.run in
    let second = rw c.in_ok-second.was at c.read_slot-2.ensures.run in
    runs_then (runs_then sync first) second

pub returns-clause-calm : goal.returns-clause-calm
returns-clause-calm g c = calm_told _ _ _ c.in_ok-sync.ensures.contents (c.read_slot-2.ensures.same ∙ c.read_slot.ensures.same)

pub returns-clause-found : goal.returns-clause-found
returns-clause-found g c = slots_told c.choose.result c.in_ok-first.first c.in_ok-second.second _ _ _ _ c.in_ok-sync.ensures.contents c.read_slot.ensures.same
    c.read_slot-2.ensures.same c.in_ok-first.ensures.slot c.in_ok-second.ensures.slot c.choose.ensures

pub returns-in_err-sync-clause-calls : goal.returns-in_err-sync-clause-calls
returns-in_err-sync-clause-calls g c =
    sync_failed c.sync.result (g.D.Disk.state c.args.disk.now) (g.D.Disk.state c.sync.new.self) c.sync.ensures.log c.from_residual.ensures.0

pub returns-in_err-first-clause-calls : goal.returns-in_err-first-clause-calls
returns-in_err-first-clause-calls g c =
    let first = rw c.in_err-first.was at c.read_slot.ensures.reads in
    first_failed c.sync.result (g.D.Disk.state c.args.disk.now) (g.D.Disk.state c.sync.new.self) c.sync.ensures.log c.sync.ensures.contents
    (g.D.Disk.state c.read_slot.new.disk) c.from_residual-in_err-first.ensures.0 first

pub returns-in_err-second-clause-calls : goal.returns-in_err-second-clause-calls
returns-in_err-second-clause-calls g c =
    let first = rw c.in_ok-first.was at c.read_slot.ensures.reads in
    let second = rw c.in_err-second.was at c.read_slot-2.ensures.reads in
    rw c.from_residual-in_err-second.ensures.0
    (slots_read c.sync.result (g.D.Disk.state c.args.disk.now) (g.D.Disk.state c.sync.new.self) c.sync.ensures.log c.sync.ensures.contents
    true (g.D.Disk.state c.read_slot.new.disk) (g.D.Disk.state c.read_slot-2.new.disk) c.read_slot.ensures.same first second)

pub returns-clause-calls : goal.returns-clause-calls
returns-clause-calls g c =
    let first = rw c.in_ok-first.was at c.read_slot.ensures.reads in
    let second = rw c.in_ok-second.was at c.read_slot-2.ensures.reads in
    slots_read c.sync.result (g.D.Disk.state c.args.disk.now) (g.D.Disk.state c.sync.new.self) c.sync.ensures.log c.sync.ensures.contents
    false (g.D.Disk.state c.read_slot.new.disk) (g.D.Disk.state c.read_slot-2.new.disk) c.read_slot.ensures.same first second

pub returns-in_err-first-clause-calm : goal.returns-in_err-first-clause-calm
returns-in_err-first-clause-calm g c = calm_told _ _ _ c.in_ok-sync.ensures.contents c.read_slot.ensures.same
