use Rattle.aoe_tools.proofs.StatLemmas.{finds-none, visits-some, visits-them}
use Rattle.aoe_tools.proofs.visiting.stat.Goals as goal

pub returns-in-Err-clause-run : goal.returns-in-Err-clause-run
returns-in-Err-clause-run g c = (
  c.now-first.result,
  record { least_is = c.now-first.ensures.least; told = c.now-first.ensures.told },
  finds-none c.in-Err.refusal c.in-Err.ensures.run,
)

pub returns-in-Ok-visit_all-clause-run : goal.returns-in-Ok-visit_all-clause-run
returns-in-Ok-visit_all-clause-run g c = (
  c.now-first.result,
  record { least_is = c.now-first.ensures.least; told = c.now-first.ensures.told },
  visits-them c.in-Ok.ensures.run c.in-Ok-visit_all.ensures.run,
)

pub returns-in-Err-visit_all-clause-run : goal.returns-in-Err-visit_all-clause-run
returns-in-Err-visit_all-clause-run g c = (
  c.now-first.result,
  record { least_is = c.now-first.ensures.least; told = c.now-first.ensures.told },
  visits-some c.in-Ok.ensures.run c.in-Err-visit_all.ensures.run,
)
