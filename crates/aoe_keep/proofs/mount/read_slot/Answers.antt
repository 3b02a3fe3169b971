use Rattle.std.proofs.Common.{false, is_err, get_or, arith}
use Rattle.std.proofs.lemmas.Bool.{eq-eqb, ne_eqb}
use Rattle.aoe_keep.proofs.Making.{gate_failed, gate_closed, body_read, read_gate}
use Rattle.aoe_keep.proofs.Runs.{runs_within, runs_then, one_run}
use Rattle.aoe_keep.proofs.mount.read_slot.Goals as goal

pub returns-in_err-read-2-clause-run : goal.returns-in_err-read-2-clause-run
returns-in_err-read-2-clause-run g c =
    let one = one_run (rw c.in_ok-read.was at c.read.ensures.call) in
    let two = one_run (rw c.in_err-read-2.was at c.read-2.ensures.call) in
    rw c.from_residual-in_err-read-2.ensures.0 (runs_within (omega arith) (omega arith) (runs_then one two))

pub returns-clause-run : goal.returns-clause-run
returns-clause-run g c =
    let one = one_run (rw c.in_ok-read.was at c.read.ensures.call) in
    let two = one_run (rw c.in_ok-read-2.was at c.read-2.ensures.call) in
    runs_within (omega arith) (omega arith) (runs_then one two)

pub returns-in_err-read-clause-reads : goal.returns-in_err-read-clause-reads
returns-in_err-read-clause-reads g c =
    let log = rw c.from-start.ensures at c.read.ensures.log in
    gate_failed c.args.k (g.D.Disk.state c.args.disk.now) (g.D.Disk.state c.read.new.self) log c.from_residual.ensures.0

pub returns-then-gate-clause-reads : goal.returns-then-gate-clause-reads
returns-then-gate-clause-reads g c =
    let log = rw c.from-start.ensures at c.read.ensures.log in
    let given = rw c.from-start.ensures at c.in_ok-read.ensures.given in
    let gate = read_gate c.args.k c.read.new.out (g.D.Disk.state c.args.disk.now).contents given in
    gate_closed c.args.k (g.D.Disk.state c.args.disk.now) (g.D.Disk.state c.read.new.self) log (ne_eqb (get_or c.read.new.out 0 0) 167 c.if-gate.true) gate

pub returns-in_err-read-2-clause-reads : goal.returns-in_err-read-2-clause-reads
returns-in_err-read-2-clause-reads g c =
    let log = rw c.from-start.ensures at c.read.ensures.log in
    let given = rw c.from-start.ensures at c.in_ok-read.ensures.given in
    let gate = read_gate c.args.k c.read.new.out (g.D.Disk.state c.args.disk.now).contents given in
    body_read c.args.k (g.D.Disk.state c.args.disk.now) (g.D.Disk.state c.read.new.self) log (is_err c.from_residual-in_err-read-2.result)
    (g.D.Disk.state c.read-2.new.self)
    (eq-eqb (get_or c.read.new.out 0 0) 167 c.if-gate.false) gate (rw c.from-start.ensures at c.read-2.ensures.log)

pub returns-clause-reads : goal.returns-clause-reads
returns-clause-reads g c =
    let log = rw c.from-start.ensures at c.read.ensures.log in
    let given = rw c.from-start.ensures at c.in_ok-read.ensures.given in
    let gate = read_gate c.args.k c.read.new.out (g.D.Disk.state c.args.disk.now).contents given in
    body_read c.args.k (g.D.Disk.state c.args.disk.now) (g.D.Disk.state c.read.new.self) log false (g.D.Disk.state c.read-2.new.self)
    (eq-eqb (get_or c.read.new.out 0 0) 167 c.if-gate.false) gate (rw c.from-start.ensures at c.read-2.ensures.log)
