use Rattle.std.proofs.Common.{◌∙◌, arith}
use Rattle.aoe_tools.proofs.VisitLemmas.{count-stays, ends, fails, goes-on}
use Rattle.aoe_tools.proofs.visiting.visit_all.Goals as goal

pub visit-requires-clause-there : goal.visit-requires-clause-there
visit-requires-clause-there g c = omega (arith, c.devices-test.true, c.count-i-end.ensures, count-stays c.devices.invariant.0)

pub devices-preserved : goal.devices-preserved
devices-preserved g c = (goes-on c.devices.invariant.0 c.in-Ok.ensures.run, c.in-Ok.ensures.link.no_fault (λ e. absurd cc) ∙ c.devices.invariant.1)

pub returns-in-Err-clause-run : goal.returns-in-Err-clause-run
returns-in-Err-clause-run g c = fails c.devices.invariant.0 c.in-Err.ensures.run

pub returns-clause-run : goal.returns-clause-run
returns-clause-run g c = ends c.devices.invariant.0 (omega (arith, c.devices-test.false, c.count-i-end.ensures))
