use Rattle.std.proofs.Common.{ap}
use Rattle.aoe.proofs.Blame.{retold}
use Rattle.aoe.proofs.Comparisons.{all-three, compare-status, compared-memory, compared-sink, runs-compare, uncompared}
use Rattle.aoe.proofs.compare.run_compare.Goals as goal

pub returns-clause-runs : goal.returns-clause-runs
returns-clause-runs g c =
    runs-compare g.D.Disk.state c.take_three-given.result _ _ _ c.compared_as.result _ _ c.compare-ended.result c.compared_as.ensures
    c.take_three-given.ensures.taken c.put_three.ensures (
      c.compare-ended.ensures.reports,
      uncompared g.D.Disk.state c.take_three-given.result _ _ _ c.compare-ended.result c.compare-ended.ensures.refuses c.compare-ended.ensures.unread
          (λ refused. ap g.K.Sink.held (c.compare-ended.ensures.unwritten refused)),
    )

pub returns-clause-status : goal.returns-clause-status
returns-clause-status g c = rw c.compared_as.ensures (compare-status c.compare-ended.result)

pub returns-clause-memory : goal.returns-clause-memory
returns-clause-memory g c told = compared-memory c.compare-ended.result c.compare-ended.ensures.unwritten (rw c.compared_as.ensures at told)

pub returns-clause-there : goal.returns-clause-there
returns-clause-there g c = rw c.put_three.ensures (all-three _)

pub returns-clause-sink : goal.returns-clause-sink
returns-clause-sink g c =
    retold _ _ (compared-sink c.compared_as.result c.compare-ended.result c.compared_as.ensures) _ _ c.compare-ended.ensures.sink
