use Rattle.aoe.proofs.Upkeeps.{all-one}
use Rattle.aoe.proofs.audit.run_audit.Goals as goal

pub returns-clause-runs : goal.returns-clause-runs
returns-clause-runs g c = record {
  given = c.take_one-given.result;
  back = c.judge-status.result.1;
  were = c.take_one-given.ensures.taken;
  are = c.put_one.ensures;
  judges = c.judge-status.ensures.judges;
}

pub returns-clause-there : goal.returns-clause-there
returns-clause-there g c = rw c.put_one.ensures (all-one c.judge-status.result.1)
