-- A text that was read to its end and spells a script has the end of its run.
use Rattle.aoe_world.proofs.RunLemmas.{ran}
use Rattle.aoe_world.proofs.whole.replay_script.Goals as goal

pub returns-in-Ok-script_in-clause-replayed : goal.returns-in-Ok-script_in-clause-replayed
returns-in-Ok-script_in-clause-replayed g c =
    ran (g.S.Source.left c.args.source.now) (g.S.Source.left c.read_text.new.source) c.as_slice.result.now (rw c.as_slice.ensures.value c.in-Ok.ensures.read)
    (g.K.Sink.held c.args.sink.now) (g.K.Sink.held c.run_script.new.sink) c.in-Ok-script_in.ensures.good c.run_script.result c.in-Ok-script_in.script
    c.in-Ok-script_in.ensures.script c.run_script.ensures.runs
