use Rattle.aoe_world.proofs.RunLemmas.{goes_through}
use Rattle.aoe_world.proofs.whole.replay.Goals as goal

pub returns-clause-replays : goal.returns-clause-replays
returns-clause-replays g c = λ text is good source sink.
    goes_through _ _ _ _ text _ _ _ _ is good source sink c.replay_script.result c.replay_script.ensures.replayed
    c.replay_script.ensures.source_fault c.replay_script.ensures.sink_fault
