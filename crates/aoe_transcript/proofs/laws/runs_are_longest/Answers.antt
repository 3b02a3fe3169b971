use Rattle.aoe_transcript.proofs.RunLemmas.{runs_of}
use Rattle.aoe_transcript.proofs.laws.runs_are_longest.Goals as goal

pub returns : goal.returns
returns c = runs_of
