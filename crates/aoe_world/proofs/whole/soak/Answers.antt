-- The stated script comes to its end, or stops.
use Rattle.aoe_world.specs.declared.part.Part.TheVariants.{Summary}
use Rattle.aoe_world.proofs.RunLemmas.{comes_through}
use Rattle.aoe_world.proofs.whole.soak.Goals as goal

pub returns-in-Ok-clause-runs : goal.returns-in-Ok-clause-runs
returns-in-Ok-clause-runs g c sink =
    rw c.in-Ok.ensures.script at (comes_through Summary c.run_script.result c.in-Ok.script (g.K.Sink.held c.args.sink.now) (g.K.Sink.held c.run_script.new.sink)
    (g.K.Sink.faults c.args.sink.now) (g.K.Sink.faults c.run_script.new.sink) c.run_script.ensures.runs sink c.run_script.ensures.sink_fault)
