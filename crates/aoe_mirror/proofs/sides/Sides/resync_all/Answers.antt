use Rattle.std.proofs.Common.{is_err, arith}
use Rattle.aoe_mirror.specs.Sides.{pair_of}
use Rattle.aoe_mirror.proofs.Passing.{passes_begun, passes_done, passes_next}
use Rattle.aoe_mirror.proofs.sides.Sides.resync_all.Goals as goal

pub runs-init : goal.runs-init
runs-init g c = (passes_begun (pair_of g.D.Disk.state c.args.self.now) c.requires.mirror, c.requires.scratch)

pub runs-preserved : goal.runs-preserved
runs-preserved g c = (
  passes_next c.runs.from c.in-Some.at c.in-Some.n (pair_of g.D.Disk.state c.args.self.now) (pair_of g.D.Disk.state c.runs.self)
      (pair_of g.D.Disk.state c.resync_run.new.self) c.in-Some.ensures c.runs.invariant.0 (is_err c.resync_run.result) c.resync_run.ensures.copies,
  omega (arith, c.runs.invariant.1),
)

pub returns : goal.returns
returns g c = passes_done c.runs.from (pair_of g.D.Disk.state c.args.self.now) (pair_of g.D.Disk.state c.runs.self) c.in_default.ensures c.runs.invariant.0
