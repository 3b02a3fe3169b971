use Rattle.aoe_history.proofs.worked.CentralGroups.{follows}
use Rattle.aoe_history.proofs.worked.Histories as histories
use Rattle.aoe_history.proofs.cases.worked_histories.Goals as goal

pub returns : goal.returns
returns c = record {
  central = histories.central;
  follows = follows;
  late = histories.late;
  stale = histories.stale;
  refusal = histories.refusal;
  gave_up = histories.gave-up;
  fault = histories.fault;
  stopped = histories.stopped-keep;
  stopped_old = histories.stopped-old;
  stopped_torn = histories.stopped-torn;
  stopped_mixed = histories.stopped-mix;
  stored = histories.uncached;
  cached = histories.cached;
  paths = histories.paths;
  measured = histories.measured-paths;
}
