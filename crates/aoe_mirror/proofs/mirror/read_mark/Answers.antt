use Rattle.std.proofs.Common.{ap, is_err}
use Rattle.aoe_mirror.proofs.Cleaning.{looked_calm, looked_quiet, looked_reads_if}
use Rattle.aoe_mirror.proofs.mirror.read_mark.Goals as goal

pub returns-then-sectors-eq1-clause-reads : goal.returns-then-sectors-eq1-clause-reads
returns-then-sectors-eq1-clause-reads g c =
    looked_reads_if (g.D.Disk.state c.args.disk.now) (g.D.Disk.state c.sync.new.self) (g.D.Disk.state c.read_one.new.disk) c.sync.result c.sync.ensures
    (ap is_err c.in_default.is) c.read_one.ensures.same c.read_one.result c.read_one.ensures.run c.read_one.ensures.sees

pub returns-then-sectors-eq1-clause-calm : goal.returns-then-sectors-eq1-clause-calm
returns-then-sectors-eq1-clause-calm g c =
    looked_calm (g.D.Disk.state c.args.disk.now) (g.D.Disk.state c.sync.new.self) (g.D.Disk.state c.read_one.new.disk) c.sync.result c.sync.ensures
    (ap is_err c.in_default.is) c.read_one.ensures.same

pub returns-clause-reads : goal.returns-clause-reads
returns-clause-reads g c =
    looked_reads_if (g.D.Disk.state c.args.disk.now) (g.D.Disk.state c.sync.new.self) (g.D.Disk.state c.read_two.new.disk) c.sync.result c.sync.ensures
    (ap is_err c.in_default.is) c.read_two.ensures.same c.read_two.result c.read_two.ensures.run c.read_two.ensures.sees

pub returns-clause-calm : goal.returns-clause-calm
returns-clause-calm g c =
    looked_calm (g.D.Disk.state c.args.disk.now) (g.D.Disk.state c.sync.new.self) (g.D.Disk.state c.read_two.new.disk) c.sync.result c.sync.ensures
    (ap is_err c.in_default.is) c.read_two.ensures.same

pub returns-then-sectors-eq1-clause-quiet : goal.returns-then-sectors-eq1-clause-quiet
returns-then-sectors-eq1-clause-quiet g c =
    looked_quiet (g.D.Disk.state c.args.disk.now) (g.D.Disk.state c.sync.new.self) (g.D.Disk.state c.read_one.new.disk) c.sync.result c.sync.ensures
    (ap is_err c.in_default.is) c.read_one.ensures.same c.read_one.result

pub returns-clause-quiet : goal.returns-clause-quiet
returns-clause-quiet g c =
    looked_quiet (g.D.Disk.state c.args.disk.now) (g.D.Disk.state c.sync.new.self) (g.D.Disk.state c.read_two.new.disk) c.sync.result c.sync.ensures
    (ap is_err c.in_default.is) c.read_two.ensures.same c.read_two.result
