-- The world of a script came to its end, or as far as there was room.
use Rattle.aoe_world.proofs.RunLemmas.{finished_in, left_alone, stopped, stops_no_sink}
use Rattle.aoe_world.proofs.whole.run_script.Goals as goal

pub returns-in-Ok-run_events-clause-runs : goal.returns-in-Ok-run_events-clause-runs
returns-in-Ok-run_events-clause-runs g c =
    finished_in c.args.part c.write_run.result c.args.script.now (g.K.Sink.held c.args.sink.now) (g.K.Sink.held c.write_run.new.sink) c.run_events.new.world
    c.count.result c.history.result.now c.run_events.ensures.lines c.in-Ok-run_events.ensures.plays
    (record { lawful = c.history.ensures.lawful; reading = c.history.ensures.reading; room = c.history.ensures.room })
    c.count.ensures.count c.history.ensures.history c.write_run.ensures.writes

pub returns-clause-runs : goal.returns-clause-runs
returns-clause-runs g c = stopped c.args.part c.in-Err-run_events.end c.args.script.now (g.K.Sink.held c.args.sink.now) c.in-Err-run_events.ensures.stops

pub returns-clause-leaves : goal.returns-clause-leaves
returns-clause-leaves g c = left_alone c.in-Err-run_events.end c.args.sink.now

pub returns-clause-sink_fault : goal.returns-clause-sink_fault
returns-clause-sink_fault g c = λ e. absurd (stops_no_sink c.in-Err-run_events.end c.args.script.now c.in-Err-run_events.ensures.stops e)

pub write_run-requires : goal.write_run-requires
write_run-requires g c = rw c.history.ensures.history c.history.ensures.printable
